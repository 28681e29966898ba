-- What a client's part keeps, sends and gives, next to what was fed to it and what it was sent.
use Rattle.std.proofs.Common.{◌≡◌, ℕ, zero, suc, ◌-◌, Bool, true, false, List, [], ◌∷◌, ◌++◌, Option, Some, None, inl, inr, refl, sym, ◌∙◌, ap, subst, ⊎_elim, slice_get}
use Rattle.std.specs.Prelude.{◌==◌}
use Rattle.std.specs.List.{AllByRecursion}
use Rattle.std.proofs.lemmas.Bool.{cond_both}
use Rattle.std.proofs.lemmas.Grind.{flat_map-append}
use Rattle.std.proofs.lemmas.List.{append-nil}
use Rattle.std.proofs.lemmas.List.Elements.{Contains-append_left, Contains-push_cases}
use Rattle.proto.specs.declared.reply.Reply as replies
use Rattle.proto.specs.declared.turn.Turn.{Turn}
use Rattle.proto.specs.declared.turn.Turn.TheVariants as turn
use Rattle.proto.specs.Grammar.{Spells}
use Rattle.proto.specs.Text.{notice_text, given_text}
use Rattle.decrees.specs.declared.node.Letter.{Letter}
use Rattle.decrees.specs.declared.node.Node.TheVariants.{Executor}
use Rattle.decrees.specs.Count.{member_count}
use Rattle.exec_lines.specs.declared.body.Body.{Body}
use Rattle.exec_lines.specs.declared.body.Body.TheVariants as body
use Rattle.client.specs.declared.asked.Asked.{Asked}
use Rattle.client.specs.declared.input.Input.{Input}
use Rattle.client.specs.declared.input.Input.TheVariants as input
use Rattle.client.specs.declared.talk.Talk.{Talk}
use Rattle.client.specs.Talk.{Given, next_request, client_letter, wants_below, unmoved, go, go_where, go_on}
use Rattle.client.specs.Step.{IsFedWhere, answered_to, asked_again, IsClientStep}
use Rattle.memcached_spec.specs.Asked.{asked, Front}
use Rattle.client.specs.Laws.{Talks, more, piece_of, bytes_fed, WasHandedIn}
use Rattle.client.proofs.TakenLemmas.{texts_imply}
use Rattle.client.proofs.LawLemmas.{given_in_order, outstanding_is_last}
use Rattle.events.specs.declared.event.Event.{Event}
use Rattle.worlds.specs.Clients.{ClientSlot, ClientSettlesWhere, ClientSettles}
use Rattle.memcached_spec.specs.Fed.{fed_to}
use Rattle.memcached_spec.specs.Asked.{IsAsked}
use Rattle.worlds.specs.Asked.{IsAskedRequest, WasSent, IsReplied}
use Rattle.one_server_laws.proofs.Each.{each_of_both, each_implies}
use Rattle.memcached_spec.proofs.Longer.{front_longer}
use Rattle.one_server_laws.proofs.AskedLines.{IsAskedBody, IsAskedLetter, AreAskedLetters}

-- ---- what is sent wants what is then outstanding

abbrev pub IsWantOf : Option Asked → Letter Body → Type 0
IsWantOf o l = (a : Asked) × (o ≡ Some a) × (l.body ≡ body.Want a.request)

abbrev AreWantsOf : Given → Type 0
AreWantsOf g = AllByRecursion (IsWantOf g.talk.outstanding) g.letters

wants_below_want : (c n : ℕ) (o : Option Asked) (a : Asked) → o ≡ Some a → AllByRecursion (IsWantOf o) (wants_below c n a.request)
wants_below_want c zero o a e = tt
wants_below_want c (suc n) o a e = each_of_both (IsWantOf o) (wants_below c n a.request) (client_letter c (Executor n) (body.Want a.request) ∷ []) (wants_below_want c n o a e) ((a, e, refl), tt)

go_wants : (u c : ℕ) (t : Talk) (bytes : List ℕ) (turns : List Turn) → AreWantsOf (go u c t bytes turns)
go_wants u c t bytes [] = tt
go_wants u c t bytes (turn.Say notice ∷ turns) = go_wants u c t (bytes ++ notice_text notice) turns
go_wants u c t bytes (turn.Close notice ∷ turns) = tt
go_wants u c t bytes (turn.Ask command quiet ∷ turns) =
    let a : Asked = record { request = next_request c t.last command; quiet = quiet } in
    wants_below_want c (member_count u) (Some a) a refl

go_where_wants : (u c : ℕ) (t : Talk) (bytes : List ℕ) (o : Option Asked) (closed : Bool) → AreWantsOf (go_where u c t bytes o closed)
go_where_wants u c t bytes None false = go_wants u c t bytes t.waiting
go_where_wants u c t bytes None true = tt
go_where_wants u c t bytes (Some a) closed = tt

answered_wants : (u c : ℕ) (t : Talk) (number : ℕ) (reply : replies.Reply) (o : Option Asked) → AreWantsOf (answered_to u c t number reply o)
answered_wants u c t number reply None = tt
answered_wants u c t number reply (Some a) =
    cond_both (a.request.number == number) (go_on u c (record t { outstanding = None }) (given_text reply a.quiet)) (unmoved t) AreWantsOf
    (λ _. go_where_wants u c (record t { outstanding = None }) (given_text reply a.quiet) None t.closed)
    (λ _. tt)

again_wants : (u c : ℕ) (t : Talk) (o : Option Asked) → t.outstanding ≡ o → AreWantsOf (asked_again u c t o)
again_wants u c t None e = tt
again_wants u c t (Some a) e = wants_below_want c (member_count u) t.outstanding a e

fed_wants : (b : Bool) (u c : ℕ) (t : Talk) (piece : List ℕ) (g : Given) → IsFedWhere b u c t piece g → AreWantsOf g
fed_wants true u c t piece g h = subst AreWantsOf (sym h) tt
fed_wants false u c t piece g h = subst AreWantsOf (sym h.3) (go_where_wants u c (record t { reader = h.1; waiting = t.waiting ++ h.0 }) [] t.outstanding t.closed)

step_wants : (u c : ℕ) (t : Talk) (x : Input) (g : Given) → IsClientStep u c t x g → AreWantsOf g
step_wants u c t (input.Feed piece) g h = fed_wants t.closed u c t piece.items g h
step_wants u c t (input.Reply number reply) g h = subst AreWantsOf (sym h) (answered_wants u c t number reply t.outstanding)
step_wants u c t input.Again g h = subst AreWantsOf (sym h) (again_wants u c t t.outstanding refl)
step_wants u c t input.Hangup g h = subst AreWantsOf (sym h) tt

-- what is outstanding was asked
outstanding_is_asked : (events : List Event) (u i : ℕ) (inputs : List Input) (t : Talk) (given : List ℕ) (a : Asked) → Talks u (suc i) inputs t given → bytes_fed inputs ≡ fed_to (suc i) events → t.outstanding ≡ Some a
    → IsAskedRequest events a.request
outstanding_is_asked events u i inputs t given a talks bytes at =
    let last = outstanding_is_last u (suc i) inputs t given a talks at in
    let turns = last.2 in
    subst (λ (client : ℕ). IsAsked (fed_to client events) a.request.number a.request.command) (sym last.0)
    (record {
      turns = turns.0;
      rest = turns.1;
      spells = subst (λ (b : List ℕ). Spells b turns.0 turns.1) bytes turns.2;
      from_one = a.request.is_numbered;
      is = subst (λ (n : ℕ). slice_get (asked turns.0) (n - 1) ≡ Some a.request.command) (sym last.1) turns.3;
    })

-- ---- what is kept true of a client

-- inputs lead to what it keeps, with just the bytes that were fed, and replies that were sent
pub record IsTalkOf (events : List Event) (letters : List (Letter Body)) (client : ℕ) (slot : ClientSlot) : Type 0 where
  pub inputs : List Input
  pub talks : Talks slot.client.u client inputs slot.client.talk slot.given
  pub bytes : bytes_fed inputs ≡ fed_to client events
  pub sent : (number : ℕ) (reply : replies.Reply) → WasHandedIn inputs number reply → WasSent letters client number reply

-- one that was stopped keeps what it gave
abbrev pub IsClientWhere : Bool → List Event → List (Letter Body) → ℕ → ClientSlot → Type 0
IsClientWhere true events letters client slot = IsTalkOf events letters client slot
IsClientWhere false events letters client slot = IsReplied events letters client slot.given

pub record IsClientOf (events : List Event) (letters : List (Letter Body)) (client : ℕ) (slot : ClientSlot) : Type 0 where
  pub same : slot.client.client ≡ client
  pub is : IsClientWhere slot.client.up events letters client slot

replied_where : (b : Bool) (events : List Event) (letters : List (Letter Body)) (client : ℕ) (slot : ClientSlot) → IsClientWhere b events letters client slot → IsReplied events letters client slot.given
replied_where true events letters client slot is =
    let h = given_in_order slot.client.u client is.inputs slot.client.talk slot.given is.talks in
    (h.0, texts_imply (WasHandedIn is.inputs) (WasSent letters client) is.sent 1 h.0 slot.given h.1, subst (λ (bytes : List ℕ). Front bytes h.0) is.bytes h.2)
replied_where false events letters client slot is = is

pub is_replied : (events : List Event) (letters : List (Letter Body)) (client : ℕ) (slot : ClientSlot) → IsClientOf events letters client slot → IsReplied events letters client slot.given
is_replied events letters client slot is = replied_where slot.client.up events letters client slot is.is

sent_more : (letters new : List (Letter Body)) (client number : ℕ) (reply : replies.Reply) → WasSent letters client number reply → WasSent (letters ++ new) client number reply
sent_more letters new client number reply s = (s.0, Contains-append_left letters new s.0 s.1, s.2, s.3)

replied_more : (events later : List Event) (letters new : List (Letter Body)) (client : ℕ) (given piece : List ℕ) → fed_to client later ≡ fed_to client events ++ piece → IsReplied events letters client given → IsReplied later (letters ++ new) client given
replied_more events later letters new client given piece fed is = (
  is.0,
  texts_imply (WasSent letters client) (WasSent (letters ++ new) client) (sent_more letters new client) 1 is.0 given is.1,
  subst (λ (bytes : List ℕ). Front bytes is.0) (sym fed) (front_longer (fed_to client events) piece is.0 is.2),
)

stays_where : (b : Bool) (events later : List Event) (letters new : List (Letter Body)) (client : ℕ) (slot : ClientSlot) → fed_to client later ≡ fed_to client events → IsClientWhere b events letters client slot → IsClientWhere b later (letters ++ new) client slot
stays_where true events later letters new client slot fed is = record {
  inputs = is.inputs;
  talks = is.talks;
  bytes = is.bytes ∙ sym fed;
  sent = λ number reply h. sent_more letters new client number reply (is.sent number reply h);
}
stays_where false events later letters new client slot fed is = replied_more events later letters new client slot.given [] (fed ∙ sym (append-nil (fed_to client events))) is

-- nothing comes of this client
pub client_stays : (events later : List Event) (letters new : List (Letter Body)) (client : ℕ) (slot : ClientSlot) → fed_to client later ≡ fed_to client events → IsClientOf events letters client slot → IsClientOf later (letters ++ new) client slot
client_stays events later letters new client slot fed is = record { same = is.same; is = stays_where slot.client.up events later letters new client slot fed is.is }

-- ---- an input

-- a reply that is handed in was sent
abbrev pub HandsSent : List (Letter Body) → ℕ → Input → Type 0
HandsSent letters client x = (number : ℕ) (reply : replies.Reply) → x ≡ input.Reply number reply → WasSent letters client number reply

module _ (events later : List Event) (letters : List (Letter Body)) (i : ℕ) (x : Input) (fed : fed_to (suc i) later ≡ fed_to (suc i) events ++ piece_of x) (hands : HandsSent letters (suc i) x) where
  -- what is known after it, and what was sent
  abbrev Comes : List (Letter Body) → ClientSlot → Type 0
  Comes new slot = IsClientOf later (letters ++ new) (suc i) slot × AreAskedLetters later new

  stops : (old : ClientSlot) (talk : Talk) (new : List (Letter Body)) → IsClientOf events letters (suc i) old → new ≡ [] → Comes new (record { client = record old.client { talk = talk; up = false }; given = old.given })
  stops old talk new is silent = (
    record { same = is.same; is = replied_more events later letters new (suc i) old.given (piece_of x) fed (is_replied events letters (suc i) old is) },
    subst (AreAskedLetters later) (sym silent) tt,
  )

  goes_on : (old : ClientSlot) (g : Given) (new : List (Letter Body)) → old.client.client ≡ suc i → IsTalkOf events letters (suc i) old → IsClientStep old.client.u (suc i) old.client.talk x g → new ≡ g.letters
      → IsTalkOf later (letters ++ new) (suc i) (record { client = record old.client { talk = g.talk }; given = old.given ++ g.bytes }) × AreAskedLetters later new
  goes_on old g new same is step sends =
      let talks : Talks old.client.u (suc i) (is.inputs ++ x ∷ []) g.talk (old.given ++ g.bytes) = more is.inputs old.client.talk old.given x g is.talks step in
      let bytes : bytes_fed (is.inputs ++ x ∷ []) ≡ fed_to (suc i) later =
      flat_map-append piece_of is.inputs (x ∷ []) ∙ (ap (λ (b : List ℕ). bytes_fed is.inputs ++ b) (append-nil (piece_of x)) ∙ (ap (λ (b : List ℕ). b ++ piece_of x) is.bytes ∙ sym fed)) in (
        record {
          inputs = is.inputs ++ x ∷ [];
          talks = talks;
          bytes = bytes;
          sent = λ number reply h. sent_more letters new (suc i) number reply
              (⊎_elim (is.sent number reply) (hands number reply) (Contains-push_cases is.inputs x (input.Reply number reply) h));
        },
        subst (AreAskedLetters later) (sym sends)
            (each_implies (IsWantOf g.talk.outstanding) (IsAskedLetter later)
            (λ l w. subst (IsAskedBody later) (sym w.2) (outstanding_is_asked later old.client.u i (is.inputs ++ x ∷ []) g.talk (old.given ++ g.bytes) w.0 talks bytes w.1))
            g.letters (step_wants old.client.u (suc i) old.client.talk x g step)),
      )

  settles_where : (b : Bool) (old now : ClientSlot) (new : List (Letter Body)) → old.client.up ≡ b → IsClientOf events letters (suc i) old → ClientSettlesWhere b old x now new → Comes new now
  settles_where false old now new up is h =
      let gone : IsReplied events letters (suc i) old.given = is_replied events letters (suc i) old is in
      subst (Comes new) (sym h.0) (
        record { same = is.same; is = subst (λ (b : Bool). IsClientWhere b later (letters ++ new) (suc i) old) (sym up) (replied_more events later letters new (suc i) old.given (piece_of x) fed gone) },
        subst (AreAskedLetters later) (sym h.1) tt,
      )
  settles_where true old now new up is (inl h) =
      let talk : IsTalkOf events letters (suc i) old = subst (λ (b : Bool). IsClientWhere b events letters (suc i) old) up is.is in
      let comes = goes_on old h.0 new is.same talk (subst (λ (c : ℕ). IsClientStep old.client.u c old.client.talk x h.0) is.same h.1) h.3 in
      subst (Comes new) (sym h.2)
      (record { same = is.same; is = subst (λ (b : Bool). IsClientWhere b later (letters ++ new) (suc i) (record { client = record old.client { talk = h.0.talk }; given = old.given ++ h.0.bytes })) (sym up) comes.0 }, comes.1)
  settles_where true old now new up is (inr h) = subst (Comes new) (sym h.1.1) (stops old h.1.0 new is h.1.2)

  pub client_settles : (old now : ClientSlot) (new : List (Letter Body)) → IsClientOf events letters (suc i) old → ClientSettles old x now new → IsClientOf later (letters ++ new) (suc i) now × AreAskedLetters later new
  client_settles old now new is h = settles_where old.client.up old now new refl is h
