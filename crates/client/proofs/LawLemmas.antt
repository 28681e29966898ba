-- What any inputs lead to.
use Rattle.std.proofs.Common.{◌≡◌, ℕ, zero, suc, ◌+◌, ◌-◌, Bool, true, false, List, [], ◌∷◌, ◌++◌, length, Option, Some, None, refl, sym, ◌∙◌, ap, subst, arith, append_assoc}
use Rattle.std.specs.Prelude.{◌||◌, ◌==◌, not, if◌then◌else◌, flat_map, slice_get, Contains, is_some}
use Rattle.std.specs.List.{list_any}
use Rattle.std.proofs.lemmas.List.{append-nil}
use Rattle.std.proofs.lemmas.List.Elements.{Contains-push, Contains-append_left}
use Rattle.std.proofs.lemmas.List.Folds.{list_any-append}
use Rattle.std.proofs.lemmas.Grind.{flat_map-append}
use Rattle.proto.specs.declared.command.Command.{Command}
use Rattle.proto.specs.declared.reply.Reply as replies
use Rattle.proto.specs.declared.turn.Turn.{Turn}
use Rattle.proto.specs.declared.turn.Turn.TheVariants.{Ask, Say, Close}
use Rattle.proto.specs.Grammar.{Spells}
use Rattle.proto.proofs.SpellsLemmas.{reads_spells}
use Rattle.client.specs.declared.asked.Asked.{Asked}
use Rattle.client.specs.declared.input.Input.{Input}
use Rattle.client.specs.declared.input.Input.TheVariants.{Feed, Reply, Again, Hangup}
use Rattle.client.specs.declared.talk.Talk.{Talk}
use Rattle.client.specs.Talk.{Given, new_talk, unmoved}
use Rattle.client.specs.Step.{IsClientStep, IsFed, IsFedWhere, on_reply, answered_to, is_asked, on_again, asked_again, on_hangup, fits_talk}
use Rattle.memcached_spec.specs.Asked.{asked, TextsBy, Front}
use Rattle.client.specs.Taken.{pending, IsIdle, Live, TalkOk}
use Rattle.client.specs.Laws.{Talks, none, more, piece_of, bytes_fed, is_hangup, has_hung_up, WasHandedIn, GivenInOrder, NoTurnIsLost, OutstandingIsLast, ClosedIsIdle, UnfitTalkStays}
use Rattle.client.proofs.TakenLemmas.{talk_implies, new_ok, fed_ok, replied_ok, again_ok, hung_up_ok, going_on}

-- P holds of the reply that the input hands in
abbrev pub Hands : (ℕ → replies.Reply → Type 0) → Input → Type 0
Hands P (Feed piece) = Unit {0}
Hands P (Reply number reply) = P number reply
Hands P Again = Unit {0}
Hands P Hangup = Unit {0}

or_false : (b : Bool) → b ≡ (b || false)
or_false true = refl
or_false false = refl

or_true : (b : Bool) → true ≡ (b || true)
or_true true = refl
or_true false = refl

-- One input.
pub step_ok : (P : ℕ → replies.Reply → Type 0) (u c : ℕ) (all : List ℕ) (hung : Bool) (t : Talk) (given : List ℕ) (input : Input) (g : Given) → Hands P input → TalkOk P c all hung t given → IsClientStep u c t input g
    → TalkOk P c (all ++ piece_of input) (hung || is_hangup input) g.talk (given ++ g.bytes)
step_ok P u c all hung t given (Feed piece) g h ok s = subst (λ (b : Bool). TalkOk P c (all ++ piece.items) b g.talk (given ++ g.bytes)) (or_false hung) (fed_ok P u c all piece.items hung t given g ok s)
step_ok P u c all hung t given (Reply number reply) g h ok s =
    subst (λ (z : List ℕ × Bool × Given). TalkOk P c z.0 z.1 z.2.talk (given ++ z.2.bytes)) (λ i. (sym (append-nil all) i, or_false hung i, sym s i)) (replied_ok P u c all hung t given number reply h ok)
step_ok P u c all hung t given Again g h ok s =
    subst (λ (z : List ℕ × Bool × Given). TalkOk P c z.0 z.1 z.2.talk (given ++ z.2.bytes)) (λ i. (sym (append-nil all) i, or_false hung i, sym s i)) (again_ok P u c all hung t given ok)
step_ok P u c all hung t given Hangup g h ok s =
    subst (λ (z : List ℕ × Bool × Given). TalkOk P c z.0 z.1 z.2.talk (given ++ z.2.bytes)) (λ i. (sym (append-nil all) i, or_true hung i, sym s i)) (hung_up_ok P c all hung t given ok)

fed_more : (inputs : List Input) (next : Input) → bytes_fed inputs ++ piece_of next ≡ bytes_fed (inputs ++ next ∷ [])
fed_more inputs next = ap (λ xs. bytes_fed inputs ++ xs) (sym (append-nil (piece_of next))) ∙ sym (flat_map-append piece_of inputs (next ∷ []))

hung_more : (inputs : List Input) (next : Input) → (has_hung_up inputs || is_hangup next) ≡ has_hung_up (inputs ++ next ∷ [])
hung_more inputs next = ap (λ b. has_hung_up inputs || b) (or_false (is_hangup next)) ∙ sym (list_any-append is_hangup inputs (next ∷ []))

handed : (inputs : List Input) (next : Input) → Hands (WasHandedIn (inputs ++ next ∷ [])) next
handed inputs (Feed piece) = tt
handed inputs (Reply number reply) = Contains-push inputs (Reply number reply)
handed inputs Again = tt
handed inputs Hangup = tt

-- What any inputs lead to.
pub talks_ok : (u c : ℕ) (inputs : List Input) (t : Talk) (given : List ℕ) → Talks u c inputs t given → TalkOk (WasHandedIn inputs) c (bytes_fed inputs) (has_hung_up inputs) t given
talks_ok u c _ _ _ none = new_ok (WasHandedIn []) c
talks_ok u c _ _ _ (more inputs t given next g before s) =
    let ok = talk_implies (WasHandedIn inputs) (WasHandedIn (inputs ++ next ∷ [])) c (bytes_fed inputs) (has_hung_up inputs) t given (λ q r h. Contains-append_left inputs (next ∷ []) (Reply q r) h) (talks_ok u c inputs t given before) in
    subst (λ (z : List ℕ × Bool). TalkOk (WasHandedIn (inputs ++ next ∷ [])) c z.0 z.1 g.talk (given ++ g.bytes)) (λ i. (fed_more inputs next i, hung_more inputs next i))
    (step_ok (WasHandedIn (inputs ++ next ∷ [])) u c (bytes_fed inputs) (has_hung_up inputs) t given next g (handed inputs next) ok s)

pub given_in_order : GivenInOrder
given_in_order u c inputs t given h = let ok = talks_ok u c inputs t given h in (ok.taken, ok.texts, ok.front)

pub no_turn_is_lost : NoTurnIsLost
no_turn_is_lost u c inputs t given h here =
    let ok = talks_ok u c inputs t given h in
    let live = ok.live here in
    let s = reads_spells (bytes_fed inputs) live.turns t.reader live.reads in
    (ok.taken, s.0, ok.texts, subst (λ (turns : List Turn). Spells (bytes_fed inputs) turns s.0) live.split s.1)

-- the command behind some turns
asked_behind : (taken turns : List Turn) (command : Command) (quiet : Bool) → slice_get (asked (taken ++ Ask command quiet ∷ turns)) (length (asked taken)) ≡ Some command
asked_behind [] turns command quiet = refl
asked_behind (Ask other q ∷ taken) turns command quiet = asked_behind taken turns command quiet
asked_behind (Say n ∷ taken) turns command quiet = asked_behind taken turns command quiet
asked_behind (Close n ∷ taken) turns command quiet = asked_behind taken turns command quiet

pub outstanding_is_last : OutstandingIsLast
outstanding_is_last u c inputs t given a h at =
    let ok = talks_ok u c inputs t given h in
    let live = ok.live (ok.unhung (going_on (WasHandedIn inputs) c (bytes_fed inputs) (has_hung_up inputs) t given a ok at)) in
    let s = reads_spells (bytes_fed inputs) live.turns t.reader live.reads in
    let own = live.own a at in
    let split : live.turns ≡ ok.taken ++ Ask a.request.command a.quiet ∷ t.waiting = live.split ∙ ap (λ (o : Option Asked). ok.taken ++ (pending o ++ t.waiting)) at in
    let pend : length (pending t.outstanding) ≡ 1 = ap (λ (o : Option Asked). length (pending o)) at in
    let place : t.last - 1 ≡ length (asked ok.taken) = let n = live.number in omega (arith, n, pend) in
    (own.0, own.1, (live.turns, s.0, s.1, (λ i. slice_get (asked (split i)) (place i)) ∙ asked_behind ok.taken t.waiting a.request.command a.quiet))

pub closed_is_idle : ClosedIsIdle
closed_is_idle u c inputs t given h = (talks_ok u c inputs t given h).idle

pub unfit_stays : UnfitTalkStays
unfit_stays u c t (Feed piece) g unfit s = by t.closed unfit s
  where
    by : (b : Bool) → not b ≡ false → IsFedWhere b u c t piece.items g → g ≡ unmoved t
    by true e s = s
    by false e s = absurd (cc e)
unfit_stays u c t (Reply number reply) g unfit s = by t.outstanding unfit s
  where
    by : (o : Option Asked) → is_asked o number ≡ false → g ≡ answered_to u c t number reply o → g ≡ unmoved t
    by None e s = s
    by (Some a) e s = s ∙ rw e refl
unfit_stays u c t Again g unfit s = by t.outstanding unfit s
  where
    by : (o : Option Asked) → is_some o ≡ false → g ≡ asked_again u c t o → g ≡ unmoved t
    by None e s = s
    by (Some a) e s = absurd (cc e)
unfit_stays u c t Hangup g unfit s = absurd (cc unfit)
