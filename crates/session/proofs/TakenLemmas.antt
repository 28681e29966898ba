-- What a client was given are the texts of the first turns that its bytes spell.
use Rattle.std.proofs.Common.{◌≡◌, ℕ, ◌+◌, Bool, true, false, List, [], ◌∷◌, ◌++◌, length, Option, Some, None, refl, sym, ◌∙◌, ap, subst, arith, append_assoc}
use Rattle.std.specs.Prelude.{◌==◌}
use Rattle.std.proofs.lemmas.Bool.{cond_both, eqb-true}
use Rattle.std.proofs.lemmas.List.{append-nil}
use Rattle.proto.specs.declared.command.Command.{Command}
use Rattle.proto.specs.declared.reply.Reply as replies
use Rattle.dialect.specs.Text.{shown_text}
use Rattle.grammar.specs.declared.reader.Dialect.{Dialect}
use Rattle.grammar.specs.declared.reader.Reader.{Reader}
use Rattle.grammar.specs.declared.turn.Turn.{Turn}
use Rattle.grammar.specs.declared.turn.Turn.TheVariants.{Ask, Say, Close}
use Rattle.grammar.specs.Turns.{said_text}
use Rattle.grammar.specs.Asks.{commands_in, TextsShown, BeginsIn}
use Rattle.grammar.specs.Reads.{HasReadIn, ReaderReads}
use Rattle.grammar.proofs.ReadLemmas.{some_spelled, none_read, read_spells, read_more}
use Rattle.grammar.proofs.AskLemmas.{begins_longer, shown_imply, shown-append, commands_push}
use Rattle.session.specs.declared.session.Awaited.{Awaited}
use Rattle.session.specs.declared.session.Ready.{Ready}
use Rattle.session.specs.declared.session.Session.{Session}
use Rattle.session.specs.Session.{SessionStep, new_session, session_stays, session_goes, session_goes_if, session_goes_on, IsFedSession, IsFedSessionIf, session_answered, answered_if_taken, answered_to_awaited, IsTakenOfSession}
use Rattle.session.specs.Taken.{IsPending, IsIdleSession, HasAllRead, SessionOk}

pub session_implies : (d : Dialect) (P Q : ℕ → replies.Reply → Type 0) (all : List ℕ) (s : Session) (given : List ℕ) → ((q : ℕ) (r : replies.Reply) → P q r → Q q r) → SessionOk d P all s given → SessionOk d Q all s given
session_implies d P Q all s given f ok = record { taken = ok.taken; texts = shown_imply P Q f 1 ok.taken given ok.texts; front = ok.front; pending = ok.pending; is_pending = ok.is_pending; number = ok.number; own = ok.own; live = ok.live; idle = ok.idle }

-- if nothing is outstanding then no command is untaken
pub none_pending : (o : Option Awaited) (c : Option Command) (turns : List Turn) → IsPending o c turns → o ≡ None → (c ≡ None) × (turns ≡ [])
none_pending None None turns h e = (refl, h)
none_pending None (Some c) turns h e = absurd h
none_pending (Some a) c turns h e = absurd (cc e)

-- the command that is outstanding
pub one_pending : (o : Option Awaited) (c : Option Command) (turns : List Turn) (a : Awaited) → IsPending o c turns → o ≡ Some a → (command : Command) × (turns ≡ Ask command a.show ∷ [])
one_pending None c turns a h e = absurd (let clash : ◌≡◌ {A = Option Awaited} None (Some a) = e in cc clash)
one_pending (Some b) (Some command) turns a h e = let s : b ≡ a = (let x : ◌≡◌ {A = Option Awaited} (Some b) (Some a) = e in cc x) in (command, h ∙ ap (λ (x : Awaited). Ask command x.show ∷ []) s)
one_pending (Some b) None turns a h e = let s : b ≡ a = (let x : ◌≡◌ {A = Option Awaited} (Some b) (Some a) = e in cc x) in (h.0, h.1 ∙ ap (λ (x : Awaited). Ask h.0 x.show ∷ []) s)

module _ (d : Dialect) (P : ℕ → replies.Reply → Type 0) where
  front_of : (all : List ℕ) (turns taken more : List Turn) (r : Reader) → HasReadIn d r all turns → turns ≡ taken ++ more → BeginsIn d all taken
  front_of all turns taken more r reads is = record { turns = turns; more = more; spells = read_spells d r all turns reads; is = is }

  one_more : (turns taken ts : List Turn) (x : Turn) → turns ≡ taken ++ x ∷ ts → turns ≡ (taken ++ x ∷ []) ++ ts
  one_more turns taken ts x is = is ∙ sym (append_assoc taken (x ∷ []) ts)

  none_more : (turns taken ts : List Turn) → turns ≡ taken ++ ts → turns ≡ (taken ++ []) ++ ts
  none_more turns taken ts is = is ∙ ap (λ (xs : List Turn). xs ++ ts) (sym (append-nil taken))

  noticed : (taken : List Turn) (given bytes text : List ℕ) (x : Turn) → TextsShown P 1 taken (given ++ bytes) → TextsShown P (1 + length (commands_in taken)) (x ∷ []) text → TextsShown P 1 (taken ++ x ∷ []) (given ++ (bytes ++ text))
  noticed taken given bytes text x h g = subst (TextsShown P 1 (taken ++ x ∷ [])) (append_assoc given bytes text) (shown-append P 1 (1 + length (commands_in taken)) taken (x ∷ []) (given ++ bytes) text refl h g)

  go_ok : (all : List ℕ) (turns : List Turn) (s : Session) (given bytes : List ℕ) (taken ts : List Turn) → HasReadIn d s.reader all turns → turns ≡ taken ++ ts → s.outstanding ≡ None → s.command ≡ None → s.closed ≡ false → s.last ≡ length (commands_in taken)
      → TextsShown P 1 taken (given ++ bytes) → SessionOk d P all (session_goes s bytes ts).session (given ++ (session_goes s bytes ts).bytes)
  go_ok all turns s given bytes taken [] reads is none untaken going number h = record {
    taken = taken;
    texts = h;
    front = front_of all turns taken [] s.reader reads is;
    pending = [];
    is_pending = subst (λ (z : Option Awaited × Option Command). IsPending z.0 z.1 []) (λ i. (sym none i, sym untaken i)) refl;
    number = omega (arith, number);
    own = λ a e. let clash : ◌≡◌ {A = Option Awaited} None (Some a) = sym none ∙ e in absurd (cc clash);
    live = λ _. record { turns = turns; reads = reads; split = none_more turns taken [] is };
    idle = λ e. let clash : false ≡ true = sym going ∙ e in absurd (cc clash);
  }
  go_ok all turns s given bytes taken (Say n ∷ ts) reads is none untaken going number h =
      go_ok all turns s given (bytes ++ said_text n) (taken ++ Say n ∷ []) ts reads (one_more turns taken ts (Say n) is) none untaken going
      (let k = commands_push taken (Say n) in omega (arith, number, k))
      (noticed taken given bytes (said_text n) (Say n) h ([], sym (append-nil (said_text n)), refl))
  go_ok all turns s given bytes taken (Close n ∷ ts) reads is none untaken going number h = record {
    taken = taken ++ Close n ∷ [];
    texts = noticed taken given bytes (said_text n) (Close n) h ([], sym (append-nil (said_text n)), refl);
    front = front_of all turns (taken ++ Close n ∷ []) ts s.reader reads (one_more turns taken ts (Close n) is);
    pending = [];
    is_pending = subst (λ (z : Option Awaited × Option Command). IsPending z.0 z.1 []) (λ i. (sym none i, sym untaken i)) refl;
    number = let k = commands_push taken (Close n) in omega (arith, number, k);
    own = λ a e. let clash : ◌≡◌ {A = Option Awaited} None (Some a) = sym none ∙ e in absurd (cc clash);
    live = λ e. let clash : true ≡ false = e in absurd (cc clash);
    idle = λ _. record { none_asked = none; none_waits = refl };
  }
  go_ok all turns s given bytes taken (Ask command show ∷ ts) reads is none untaken going number h = record {
    taken = taken;
    texts = h;
    front = front_of all turns taken (Ask command show ∷ ts) s.reader reads is;
    pending = Ask command show ∷ [];
    is_pending = refl;
    number = omega (arith, number);
    own = λ a e.
        let same : ◌≡◌ {A = Awaited} (record { number = s.last + 1; show = show }) a = let x : ◌≡◌ {A = Option Awaited} (Some (record { number = s.last + 1; show = show })) (Some a) = e in cc x in
        ap (λ (x : Awaited). x.number) (sym same);
    live = λ _. record { turns = turns; reads = reads; split = one_more turns taken ts (Ask command show) is };
    idle = λ e. let clash : false ≡ true = sym going ∙ e in absurd (cc clash);
  }

  -- nothing came yet
  pub new_ok : SessionOk d P [] (new_session d) []
  new_ok =
      let reads = none_read d in
      record {
        taken = [];
        texts = refl;
        front = record { turns = []; more = []; spells = read_spells d (new_session d).reader [] [] reads; is = refl };
        pending = [];
        is_pending = refl;
        number = refl;
        own = λ a e. let clash : ◌≡◌ {A = Option Awaited} None (Some a) = e in absurd (cc clash);
        live = λ _. record { turns = []; reads = reads; split = refl };
        idle = λ e. absurd (cc e);
      }

  -- nothing changes
  stays_ok : (all : List ℕ) (s : Session) (given : List ℕ) → SessionOk d P all s given → SessionOk d P all s (given ++ [])
  stays_ok all s given ok = subst (SessionOk d P all s) (sym (append-nil given)) ok

  -- if something is outstanding it is not closed
  pub going_on : (all : List ℕ) (s : Session) (given : List ℕ) (a : Awaited) → SessionOk d P all s given → s.outstanding ≡ Some a → s.closed ≡ false
  going_on all s given a ok at = by s.closed refl
    where
      by : (b : Bool) → s.closed ≡ b → s.closed ≡ false
      by true e = let clash : ◌≡◌ {A = Option Awaited} None (Some a) = sym (ok.idle e).none_asked ∙ at in absurd (cc clash)
      by false e = e

  -- a reply of which P holds comes
  pub replied_ok : (all : List ℕ) (s : Session) (given : List ℕ) (q : ℕ) (reply : replies.Reply) → P q reply → SessionOk d P all s given → SessionOk d P all (session_answered s q reply).session (given ++ (session_answered s q reply).bytes)
  replied_ok all s given q reply p ok = by_command s.command refl
    where
      by : (o : Option Awaited) → s.command ≡ None → s.outstanding ≡ o → SessionOk d P all (answered_to_awaited s q reply o).session (given ++ (answered_to_awaited s q reply o).bytes)
      by None untaken at = stays_ok all s given ok
      by (Some a) untaken at = cond_both (a.number == q) (session_goes_on (record s { outstanding = None }) (shown_text reply a.show)) (session_stays s) (λ (g : SessionStep). SessionOk d P all g.session (given ++ g.bytes))
          (λ same.
          let going = going_on all s given a ok at in
          let live : HasAllRead d all s (ok.taken ++ ok.pending) = ok.live going in
          let pend = one_pending s.outstanding s.command ok.pending a ok.is_pending at in
          let one : length ok.pending ≡ 1 = ap (λ (ts : List Turn). length ts) pend.1 in
          let its = ok.own a at in
          let last = ok.number in
          let number : q ≡ 1 + length (commands_in ok.taken) = let eq = eqb-true a.number q same in omega (arith, eq, last, its, one) in
          let pushed = commands_push ok.taken (Ask pend.0 a.show) in
          let went = go_ok all live.turns (record s { outstanding = None }) given (shown_text reply a.show) (ok.taken ++ Ask pend.0 a.show ∷ []) s.waiting live.reads
          (live.split ∙ ap (λ (ts : List Turn). (ok.taken ++ ts) ++ s.waiting) pend.1) refl untaken going
          (omega (arith, last, one, pushed))
          (shown-append P 1 q ok.taken (Ask pend.0 a.show ∷ []) given (shown_text reply a.show) number ok.texts (reply, [], p, sym (append-nil (shown_text reply a.show)), refl)) in
          let Q : Bool → Type 0 = λ z. SessionOk d P all (session_goes_if (record s { outstanding = None }) (shown_text reply a.show) None z).session (given ++ (session_goes_if (record s { outstanding = None }) (shown_text reply a.show) None z).bytes) in
          subst Q (sym going) went)
          (λ _. stays_ok all s given ok)

      by_command : (c : Option Command) → s.command ≡ c → SessionOk d P all (answered_if_taken s q reply c).session (given ++ (answered_if_taken s q reply c).bytes)
      by_command (Some c) e = stays_ok all s given ok
      by_command None e = by s.outstanding e refl

  -- a piece of the client's bytes comes
  pub fed_ok : (all piece : List ℕ) (s : Session) (given : List ℕ) (g : SessionStep) → SessionOk d P all s given → IsFedSession s piece g → SessionOk d P (all ++ piece) g.session (given ++ g.bytes)
  fed_ok all piece s given g ok h = by s.closed refl h
    where
      by : (closed : Bool) → s.closed ≡ closed → IsFedSessionIf closed s piece g → SessionOk d P (all ++ piece) g.session (given ++ g.bytes)
      by true at is = subst (λ (z : SessionStep). SessionOk d P (all ++ piece) z.session (given ++ z.bytes)) (sym is)
          (stays_ok (all ++ piece) s given (record {
            taken = ok.taken;
            texts = ok.texts;
            front = begins_longer d all piece ok.taken ok.front;
            pending = ok.pending;
            is_pending = ok.is_pending;
            number = ok.number;
            own = ok.own;
            live = λ e. let clash : true ≡ false = sym at ∙ e in absurd (cc clash);
            idle = ok.idle;
          }))
      by false at is = subst (λ (z : SessionStep). SessionOk d P (all ++ piece) z.session (given ++ z.bytes)) (sym is.3)
          (let Q : Bool → Type 0 = λ z. SessionOk d P (all ++ piece) (session_goes_if s' [] s'.outstanding z).session (given ++ (session_goes_if s' [] s'.outstanding z).bytes) in subst Q (sym at) (on s.outstanding refl))
        where
          live : HasAllRead d all s (ok.taken ++ ok.pending)
          live = ok.live at

          reads : HasReadIn d is.1 (all ++ piece) (live.turns ++ is.0)
          reads = read_more d s.reader is.1 all piece live.turns is.0 live.reads is.2

          s' : Session
          s' = record s { reader = is.1; waiting = s.waiting ++ is.0 }

          split : live.turns ++ is.0 ≡ (ok.taken ++ ok.pending) ++ (s.waiting ++ is.0)
          split = ap (λ ts. ts ++ is.0) live.split ∙ append_assoc (ok.taken ++ ok.pending) s.waiting is.0

          on : (o : Option Awaited) → s.outstanding ≡ o → SessionOk d P (all ++ piece) (session_goes_if s' [] o false).session (given ++ (session_goes_if s' [] o false).bytes)
          on None e =
              let nothing = none_pending s.outstanding s.command ok.pending ok.is_pending e in
              let zero : length ok.pending ≡ 0 = ap (λ (ts : List Turn). length ts) nothing.1 in
              let n = ok.number in
              go_ok (all ++ piece) (live.turns ++ is.0) s' given [] ok.taken (s.waiting ++ is.0) reads
              (split ∙ ap (λ (ts : List Turn). ts ++ (s.waiting ++ is.0)) (ap (λ (ts : List Turn). ok.taken ++ ts) nothing.1 ∙ append-nil ok.taken)) e nothing.0 at (omega (arith, n, zero))
              (subst (TextsShown P 1 ok.taken) (sym (append-nil given)) ok.texts)
          on (Some a) e = stays_ok (all ++ piece) s' given (record {
            taken = ok.taken;
            texts = ok.texts;
            front = begins_longer d all piece ok.taken ok.front;
            pending = ok.pending;
            is_pending = ok.is_pending;
            number = ok.number;
            own = ok.own;
            live = λ _. record { turns = live.turns ++ is.0; reads = reads; split = split };
            idle = λ c. let clash : false ≡ true = sym at ∙ c in absurd (cc clash);
          })

  -- its command is taken
  pub taken_ok : (all : List ℕ) (s : Session) (given : List ℕ) (ready : Ready) (now : Session) → IsTakenOfSession s ready now → SessionOk d P all s given → SessionOk d P all now given
  taken_ok all s given ready now t ok =
      let pend = one_pending s.outstanding s.command ok.pending t.asked ok.is_pending t.outstanding in
      subst (λ (x : Session). SessionOk d P all x given) (sym t.now_is) (record {
        taken = ok.taken;
        texts = ok.texts;
        front = ok.front;
        pending = ok.pending;
        is_pending = subst (λ (o : Option Awaited). IsPending o None ok.pending) (sym t.outstanding) pend;
        number = ok.number;
        own = ok.own;
        live = λ e. let l = ok.live e in record { turns = l.turns; reads = l.reads; split = l.split };
        idle = λ e. let i = ok.idle e in record { none_asked = i.none_asked; none_waits = i.none_waits };
      })
