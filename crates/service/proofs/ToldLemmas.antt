-- What connections are told, call by call.
use Rattle.std.proofs.Common.{◌≡◌, ◌⊎◌, inl, inr, ⊎_elim, ℕ, ◌+◌, ◌-◌, ◌^◌, ◌≤◌, ◌<◌, Bool, true, false, List, [], ◌∷◌, ◌++◌, Option, Some, refl, sym, ap, ◌∙◌, subst, arith, length, append_assoc}
use Rattle.std.specs.Prelude.{◌≢◌, not, Contains}
use Rattle.std.proofs.lemmas.Bool.{eq-eqb}
use Rattle.std.proofs.lemmas.List.{append-nil}
use Rattle.std.proofs.lemmas.List.Elements.{Contains-push, Contains-append_left, Contains-append_right, Contains-append_cases}
use Rattle.proto.specs.declared.reply.Reply as replies
use Rattle.session.specs.declared.session.Ready.{Ready}
use Rattle.session.specs.declared.session.Session.{Session}
use Rattle.connections.specs.declared.slots.ConnectionId.{ConnectionId}
use Rattle.loop_messages.specs.declared.message.Said.{Said}
use Rattle.connections.specs.Connection.{ConnectionView}
use Rattle.connections.specs.Connections.{ConnectionsView}
use Rattle.connections.specs.Slots.{is_of_connection, slot_in, is_here, left_at, HasSameOthers}
use Rattle.connections.specs.Owed.{IsTakenAt}
use Rattle.connections.specs.Told.{is_outstanding, is_outstanding_in, IsToldAt}
use Rattle.connections.proofs.SlotLemmas.{here_is, same_or_not}
use Rattle.connections.proofs.AtLemmas.{left_others}
use Rattle.connections.proofs.OwedLemmas.{left_own}
use Rattle.connections.proofs.TakeLemmas.{one_of}
use Rattle.ensemble.specs.Ensemble.{EnsembleView}
use Rattle.service.specs.declared.asking.Asking.{Asking}
use Rattle.service.specs.declared.asking.Asking.TheVariants as asking
use Rattle.service.specs.declared.assignment.Assignment.{Assignment}
use Rattle.service.specs.declared.assignment.Outstanding.{Outstanding}
use Rattle.service.specs.declared.note.Waiting.{Waiting}
use Rattle.service.specs.declared.working.TheConstants.{MOST_PASSES}
use Rattle.service.specs.Service.{ServiceView}
use Rattle.service.specs.Steps.{AsksFor, Settles}
use Rattle.service.specs.Owed.{AllWait}
use Rattle.service.specs.Told.{AreOfOthers, IsLastTold, AreTold, IsToldToClose, LeaversAreTold, UnlessRefused, TellsIn, MayTell, IsToldIfFailed, AsksAll, HasMoreAnswers, AsksWhatWaits}

abbrev Table : Type 0
Table = List (Option ConnectionView)

-- ---- who is here

-- the connection at a key
here_at : (table : Table) (key : ℕ) (c : ConnectionView) → slot_in table key ≡ Some c → is_here c.number table key ≡ true
here_at table key c e = ap (is_of_connection c.number) e ∙ eq-eqb c.number c.number refl

here_same : (old new : Table) (key number : ℕ) → slot_in new key ≡ slot_in old key → is_here number old key ≡ true → is_here number new key ≡ true
here_same old new key number same here = ap (is_of_connection number) same ∙ here

not_here : (b : Bool) → (b ≡ true → ⊥) → b ≡ false
not_here true never = absurd (never refl)
not_here false never = refl

-- ---- nothing is said

nothing_is : (s : Said) → Contains [] s → ⊥
nothing_is s i = let lt = i.1 in absurd (omega (arith, lt))

-- who is at a key was there, with the same outstanding command
module _ (old new : Table) (was : (key : ℕ) (d : ConnectionView) → slot_in new key ≡ Some d → (is_here d.number old key ≡ true) × (is_outstanding_in d.number new key ≡ is_outstanding_in d.number old key)) where
  pub silent : AreTold old new []
  silent = record {
    there = λ s i. absurd (nothing_is s i);
    closed = λ s i. absurd (nothing_is s i);
    waits = λ s last. absurd last;
    untold = λ key c e others. (was key c e).1;
    none_comes = λ key c e. (was key c e).0;
  }

pub same_told : (old new : Table) → new ≡ old → AreTold old new []
same_told old new same = silent old new (λ key d e. (here_at old key d (ap (λ (t : Table). slot_in t key) (sym same) ∙ e), ap (λ (t : Table). is_outstanding_in d.number t key) same))

pub same_leavers : (old new : Table) (said : List Said) → new ≡ old → LeaversAreTold old new said
same_leavers old new said same key c e = inl (here_at new key c (ap (λ (t : Table). slot_in t key) same ∙ e))

pub tells_same : (old new : Table) (refused refused_now : ℕ) (said said_now : List Said) → new ≡ old → said_now ≡ said → TellsIn old refused said new refused_now said_now
tells_same old new refused refused_now said said_now same same_said = ([], same_said ∙ sym (append-nil said), same_told old new same, λ more few. same_leavers old new [] same)

-- ---- one is told

told_one : (x s : Said) → Contains (x ∷ []) s → x ≡ s
told_one x s i = one_of x s i

module _ (at : ConnectionId) (old new : Table) (x : Said) (told : IsToldAt at old new x) where
  here_x : is_here x.number old x.key ≡ true
  here_x = (λ i. is_here (told.number i) old (told.key i)) ∙ told.was_here

  stays_x : is_here x.number new x.key ≡ not x.closes
  stays_x = (λ i. is_here (told.number i) new (told.key i)) ∙ told.stays

  waits_x : x.closes ≡ false → x.waits ≡ is_outstanding_in x.number new x.key
  waits_x stays = told.waits stays ∙ sym (λ i. is_outstanding_in (told.number i) new (told.key i))

  -- who is here is not told to close
  open_x : is_here x.number new x.key ≡ true → x.closes ≡ false
  open_x here = by x.closes (sym stays_x ∙ here)
    where
      by : (b : Bool) → not b ≡ true → b ≡ false
      by true e = absurd (cc e)
      by false e = refl

  closed_x : x.closes ≡ true → is_here x.number new x.key ≡ false
  closed_x closes = stays_x ∙ ap not closes

  waits_last : (s : Said) → IsLastTold s (x ∷ []) → is_here s.number new s.key ≡ true → s.waits ≡ is_outstanding_in s.number new s.key
  waits_last s last = ⊎_elim
      (λ (none : IsLastTold s []). absurd none)
      (λ (one : (x ≡ s) × AreOfOthers s.number []). subst (λ (t : Said). is_here t.number new t.key ≡ true → t.waits ≡ is_outstanding_in t.number new t.key) one.0 (λ here. waits_x (open_x here)))
      last

  untold_x : (key : ℕ) (c : ConnectionView) → slot_in new key ≡ Some c → AreOfOthers c.number (x ∷ []) → is_outstanding_in c.number new key ≡ is_outstanding_in c.number old key
  untold_x key c e others = ⊎_elim
      (λ (same : key ≡ at.key). absurd (others x (Contains-push [] x) (told.number ∙ sym (told.alone c (ap (slot_in new) (sym same) ∙ e)))))
      (λ (differs : key ≢ at.key). ap (is_outstanding c.number) (told.others key differs))
      (same_or_not key at.key)

  comes_x : (key : ℕ) (c : ConnectionView) → slot_in new key ≡ Some c → is_here c.number old key ≡ true
  comes_x key c e = ⊎_elim
      (λ (same : key ≡ at.key). (λ i. is_here ((told.alone c (ap (slot_in new) (sym same) ∙ e)) i) old (same i)) ∙ told.was_here)
      (λ (differs : key ≢ at.key). here_at old key c (sym (told.others key differs) ∙ e))
      (same_or_not key at.key)

  pub one_told : AreTold old new (x ∷ [])
  one_told = record {
    there = λ s i. subst (λ (t : Said). is_here t.number old t.key ≡ true) (told_one x s i) here_x;
    closed = λ s i. subst (λ (t : Said). t.closes ≡ true → is_here t.number new t.key ≡ false) (told_one x s i) closed_x;
    waits = waits_last;
    untold = untold_x;
    none_comes = comes_x;
  }

  -- it is here, or is told to close
  leaves_x : (c : ConnectionView) → slot_in old at.key ≡ Some c → (is_here c.number new at.key ≡ true) ⊎ IsToldToClose at.key c.number (x ∷ [])
  leaves_x c e =
      let h = here_is at.number (slot_in old at.key) told.was_here in
      let is : h.0 ≡ c = (let s : ◌≡◌ {A = Option ConnectionView} (Some h.0) (Some c) = sym h.1 ∙ e in cc s) in
      let number : c.number ≡ at.number = ap (λ (d : ConnectionView). d.number) (sym is) ∙ h.2 in
      by x.closes refl number
    where
      by : (b : Bool) → x.closes ≡ b → c.number ≡ at.number → (is_here c.number new at.key ≡ true) ⊎ IsToldToClose at.key c.number (x ∷ [])
      by true closes number = inr (record { told = x; there = Contains-push [] x; key_is = told.key; number_is = told.number ∙ sym number; closes = closes })
      by false stays number = inl (ap (λ (n : ℕ). is_here n new at.key) number ∙ (told.stays ∙ ap not stays))

  pub one_leaves : LeaversAreTold old new (x ∷ [])
  one_leaves key c e = ⊎_elim
      (λ (same : key ≡ at.key). subst (λ (k : ℕ). (is_here c.number new k ≡ true) ⊎ IsToldToClose k c.number (x ∷ [])) (sym same) (leaves_x c (ap (slot_in old) (sym same) ∙ e)))
      (λ (differs : key ≢ at.key). inl (here_at new key c (told.others key differs ∙ e)))
      (same_or_not key at.key)

  pub tells_one : (refused refused_now : ℕ) (said said_now : List Said) → said_now ≡ said ++ x ∷ [] → TellsIn old refused said new refused_now said_now
  tells_one refused refused_now said said_now is = (x ∷ [], is, one_told, λ more few. one_leaves)

pub may_tell : (at : ConnectionId) (old new : Table) (refused refused_now : ℕ) (said said_now : List Said) → MayTell at old new said said_now → TellsIn old refused said new refused_now said_now
may_tell at old new refused refused_now said said_now tells = ⊎_elim
    (λ (none : (new ≡ old) × (said_now ≡ said)). tells_same old new refused refused_now said said_now none.0 none.1)
    (λ (one : (given : Said) × (said_now ≡ said ++ given ∷ []) × IsToldAt at old new given). tells_one at old new one.0 one.2 refused refused_now said said_now one.1)
    tells

-- ---- one after the other

others_left : (number : ℕ) (a b : List Said) → AreOfOthers number (a ++ b) → AreOfOthers number a
others_left number a b others s i = others s (Contains-append_left a b s i)

others_right : (number : ℕ) (a b : List Said) → AreOfOthers number (a ++ b) → AreOfOthers number b
others_right number a b others s i = others s (Contains-append_right a b s i)

-- the last is among those that came later, or these are for others
last_cases : (s : Said) (a b : List Said) → IsLastTold s (a ++ b) → IsLastTold s b ⊎ (IsLastTold s a × AreOfOthers s.number b)
last_cases s [] b last = inl last
last_cases s (t ∷ a) b last = ⊎_elim
    (λ (later : IsLastTold s (a ++ b)). ⊎_elim (λ (in_b : IsLastTold s b). inl in_b) (λ (in_a : IsLastTold s a × AreOfOthers s.number b). inr (inl in_a.0, in_a.1)) (last_cases s a b later))
    (λ (this : (t ≡ s) × AreOfOthers s.number (a ++ b)). inr (inr (this.0, others_left s.number a b this.1), others_right s.number a b this.1))
    last

module _ (old mid new : Table) (a b : List Said) (first : AreTold old mid a) (second : AreTold mid new b) where
  -- who is here was here in between
  back_mid : (number key : ℕ) → is_here number new key ≡ true → is_here number mid key ≡ true
  back_mid number key here =
      let h = here_is number (slot_in new key) here in
      subst (λ (n : ℕ). is_here n mid key ≡ true) h.2 (second.none_comes key h.0 h.1)

  back_old : (number key : ℕ) → is_here number mid key ≡ true → is_here number old key ≡ true
  back_old number key here =
      let h = here_is number (slot_in mid key) here in
      subst (λ (n : ℕ). is_here n old key ≡ true) h.2 (first.none_comes key h.0 h.1)

  -- of whom nothing is said
  mid_new : (number key : ℕ) → is_here number new key ≡ true → AreOfOthers number b → is_outstanding_in number new key ≡ is_outstanding_in number mid key
  mid_new number key here others =
      let h = here_is number (slot_in new key) here in
      subst (λ (n : ℕ). is_outstanding_in n new key ≡ is_outstanding_in n mid key) h.2 (second.untold key h.0 h.1 (subst (λ (n : ℕ). AreOfOthers n b) (sym h.2) others))

  old_mid : (number key : ℕ) → is_here number mid key ≡ true → AreOfOthers number a → is_outstanding_in number mid key ≡ is_outstanding_in number old key
  old_mid number key here others =
      let h = here_is number (slot_in mid key) here in
      subst (λ (n : ℕ). is_outstanding_in n mid key ≡ is_outstanding_in n old key) h.2 (first.untold key h.0 h.1 (subst (λ (n : ℕ). AreOfOthers n a) (sym h.2) others))

  there_on : (s : Said) → Contains (a ++ b) s → is_here s.number old s.key ≡ true
  there_on s i = ⊎_elim (λ (in_a : Contains a s). first.there s in_a) (λ (in_b : Contains b s). back_old s.number s.key (second.there s in_b)) (Contains-append_cases a b s i)

  closed_on : (s : Said) → Contains (a ++ b) s → s.closes ≡ true → is_here s.number new s.key ≡ false
  closed_on s i closes = ⊎_elim
      (λ (in_a : Contains a s). not_here (is_here s.number new s.key) (λ here. let clash : false ≡ true = sym (first.closed s in_a closes) ∙ back_mid s.number s.key here in absurd (cc clash)))
      (λ (in_b : Contains b s). second.closed s in_b closes)
      (Contains-append_cases a b s i)

  waits_on : (s : Said) → IsLastTold s (a ++ b) → is_here s.number new s.key ≡ true → s.waits ≡ is_outstanding_in s.number new s.key
  waits_on s last here = ⊎_elim
      (λ (in_b : IsLastTold s b). second.waits s in_b here)
      (λ (in_a : IsLastTold s a × AreOfOthers s.number b). first.waits s in_a.0 (back_mid s.number s.key here) ∙ sym (mid_new s.number s.key here in_a.1))
      (last_cases s a b last)

  pub told_on : AreTold old new (a ++ b)
  told_on = record {
    there = there_on;
    closed = closed_on;
    waits = waits_on;
    untold = λ key c e others.
        let here = here_at new key c e in
        mid_new c.number key here (others_right c.number a b others) ∙ old_mid c.number key (back_mid c.number key here) (others_left c.number a b others);
    none_comes = λ key c e. back_old c.number key (second.none_comes key c e);
  }

more_closed : (key number : ℕ) (a b : List Said) → IsToldToClose key number a → IsToldToClose key number (a ++ b)
more_closed key number a b t = record { told = t.told; there = Contains-append_left a b t.told t.there; key_is = t.key_is; number_is = t.number_is; closes = t.closes }

later_closed : (key number : ℕ) (a b : List Said) → IsToldToClose key number b → IsToldToClose key number (a ++ b)
later_closed key number a b t = record { told = t.told; there = Contains-append_right a b t.told t.there; key_is = t.key_is; number_is = t.number_is; closes = t.closes }

leavers_on : (old mid new : Table) (a b : List Said) → LeaversAreTold old mid a → LeaversAreTold mid new b → LeaversAreTold old new (a ++ b)
leavers_on old mid new a b first second key c e = ⊎_elim
    (λ (here : is_here c.number mid key ≡ true).
    let h = here_is c.number (slot_in mid key) here in
    ⊎_elim
    (λ (stays : is_here h.0.number new key ≡ true). inl (ap (λ (n : ℕ). is_here n new key) (sym h.2) ∙ stays))
    (λ (told : IsToldToClose key h.0.number b). inr (later_closed key c.number a b (subst (λ (n : ℕ). IsToldToClose key n b) h.2 told)))
    (second key h.0 h.1))
    (λ (told : IsToldToClose key c.number a). inr (more_closed key c.number a b told))
    (first key c e)

pub tells_on : (old mid new : Table) (r0 r1 r2 : ℕ) (s0 s1 s2 : List Said) → r0 ≤ r1 → r1 ≤ r2 → TellsIn old r0 s0 mid r1 s1 → TellsIn mid r1 s1 new r2 s2 → TellsIn old r0 s0 new r2 s2
tells_on old mid new r0 r1 r2 s0 s1 s2 le_a le_b first second = (
  first.0 ++ second.0,
  second.1 ∙ (ap (λ (xs : List Said). xs ++ second.0) first.1 ∙ append_assoc s0 first.0 second.0),
  told_on old mid new first.0 second.0 first.2 second.2,
  λ same few. leavers_on old mid new first.0 second.0
      (first.3 (omega (arith, le_a, le_b, same)) few)
      (second.3 (omega (arith, le_a, le_b, same)) (omega (arith, le_a, le_b, same, few))),
)

-- what is refused elsewhere is counted too
pub tells_more : (old new : Table) (r r_now e : ℕ) (said said_now : List Said) → TellsIn old r said new r_now said_now → TellsIn old (r + e) said new (r_now + e) said_now
tells_more old new r r_now e said said_now tells = (tells.0, tells.1, tells.2, λ same few. tells.3 (omega (arith, same)) (omega (arith, few)))

-- ---- a command is taken

pub taken_told : (at : ConnectionId) (old new : Table) (ready : Ready) → HasSameOthers at.key old new → IsTakenAt at old new ready → AreTold old new []
taken_told at old new ready others took = silent old new (λ key d e. ⊎_elim
    (λ (same : key ≡ at.key).
    let is : took.next ≡ d = (let s : ◌≡◌ {A = Option ConnectionView} (Some took.next) (Some d) = sym took.there ∙ (ap (slot_in new) (sym same) ∙ e) in cc s) in
    let number : took.was.number ≡ d.number = sym (ap (λ (x : ConnectionView). x.number) took.is.now_is) ∙ ap (λ (x : ConnectionView). x.number) is in (
      subst (λ (z : ℕ × ℕ). is_here z.0 old z.1 ≡ true) (λ i. (number i, sym same i)) (here_at old at.key took.was took.at_key),
      (λ i. is_outstanding_in d.number new (same i)) ∙ (ap (is_outstanding d.number) took.there ∙ ((ap (λ (x : ConnectionView). is_outstanding d.number (Some x)) took.is.now_is ∙ ap (λ (s : Session). is_outstanding d.number (Some (record { number = took.was.number; session = s; unwritten = took.was.unwritten }))) took.is.of_session.now_is) ∙ (sym (ap (is_outstanding d.number) took.at_key) ∙ (λ i. is_outstanding_in d.number old (sym same i))))),
    ))
    (λ (differs : key ≢ at.key). (here_at old key d (sym (others key differs) ∙ e), ap (is_outstanding d.number) (others key differs)))
    (same_or_not key at.key))

pub taken_leavers : (at : ConnectionId) (old new : Table) (ready : Ready) → HasSameOthers at.key old new → IsTakenAt at old new ready → LeaversAreTold old new []
taken_leavers at old new ready others took key c e = inl (⊎_elim
    (λ (same : key ≡ at.key).
    let is : took.was ≡ c = (let s : ◌≡◌ {A = Option ConnectionView} (Some took.was) (Some c) = sym took.at_key ∙ (ap (slot_in old) (sym same) ∙ e) in cc s) in
    let number : took.next.number ≡ c.number = ap (λ (x : ConnectionView). x.number) took.is.now_is ∙ ap (λ (x : ConnectionView). x.number) is in
    subst (λ (z : ℕ × ℕ). is_here z.0 new z.1 ≡ true) (λ i. (number i, sym same i)) (here_at new at.key took.next took.there))
    (λ (differs : key ≢ at.key). here_at new key c (others key differs ∙ e))
    (same_or_not key at.key))

-- it is told that it is to close, after its command was taken
pub told_since_taken : (at : ConnectionId) (old mid new : Table) (ready : Ready) (said : Said) → IsTakenAt at old mid ready → HasSameOthers at.key old mid → IsToldAt at mid new said → IsToldAt at old new said
told_since_taken at old mid new ready said took others told = record {
  key = told.key;
  number = told.number;
  was_here = ap (is_of_connection at.number) took.at_key ∙ eq-eqb took.was.number at.number took.number;
  stays = told.stays;
  waits = told.waits;
  alone = told.alone;
  others = λ other differs. told.others other differs ∙ others other differs;
}

-- whatever came of it
pub assign_tells : (at : ConnectionId) (proxy : ℕ) (v next : ConnectionsView) (e f : EnsembleView) (asked : Asking) (pool pool_now : List (Option Outstanding)) (before now : List Assignment) (refused refused_now : ℕ) (said said_now : List Said) (key : ℕ)
    → AsksFor at proxy v e next f asked → IsToldIfFailed at v.table next.table asked → Settles key asked pool pool_now before now said said_now → TellsIn v.table refused said next.table refused_now said_now
assign_tells at proxy v next e f asking.Nothing pool pool_now before now refused refused_now said said_now key asks told settles =
    tells_same v.table next.table refused refused_now said said_now (ap (λ (x : ConnectionsView). x.table) asks.4) settles.2
assign_tells at proxy v next e f (asking.Asked a) pool pool_now before now refused refused_now said said_now key asks told settles =
    ([], settles.2 ∙ sym (append-nil said), taken_told at v.table next.table asks.ready asks.others asks.there, λ more few. taken_leavers at v.table next.table asks.ready asks.others asks.there)
assign_tells at proxy v next e f (asking.Failed given) pool pool_now before now refused refused_now said said_now key asks told settles =
    tells_one at v.table next.table given told refused refused_now said said_now settles.2

-- ---- a connection leaves, and nothing is said

-- who is there then was there
left_back : (at : ConnectionId) (table : Table) (key : ℕ) (d : ConnectionView) → slot_in (left_at at table) key ≡ Some d → slot_in table key ≡ Some d
left_back at table key d e = ⊎_elim
    (λ (same : key ≡ at.key). ap (slot_in table) same ∙ (left_own at table d (ap (slot_in (left_at at table)) (sym same) ∙ e)).1)
    (λ (differs : key ≢ at.key). sym (left_others at table key differs) ∙ e)
    (same_or_not key at.key)

pub left_tells : (at : ConnectionId) (old new : Table) (refused refused_now : ℕ) (said said_now : List Said) → new ≡ left_at at old → said_now ≡ said → (refused < 2 ^ 64 - 1 → refused < refused_now) → TellsIn old refused said new refused_now said_now
left_tells at old new refused refused_now said said_now left same counted = (
  [],
  same ∙ sym (append-nil said),
  silent old new (λ key d e.
      let was = left_back at old key d (ap (λ (t : Table). slot_in t key) (sym left) ∙ e) in
      (here_at old key d was, ap (is_outstanding d.number) (e ∙ sym was))),
  λ again few. let more = counted few in absurd (omega (arith, more, again)),
)

-- ---- all of it

-- what holds unless something later was refused
pub unless_on : (r0 r1 r2 : ℕ) (Holds : Type 0) → r0 ≤ r1 → r1 ≤ r2 → UnlessRefused r1 r2 Holds → UnlessRefused r0 r2 Holds
unless_on r0 r1 r2 Holds le_a le_b holds same few = holds (omega (arith, le_a, le_b, same)) (omega (arith, le_a, le_b, same, few))

pub unless_before : (r0 r1 r2 : ℕ) (Holds : Type 0) → r0 ≤ r1 → r1 ≤ r2 → UnlessRefused r0 r1 Holds → UnlessRefused r0 r2 Holds
unless_before r0 r1 r2 Holds le_a le_b holds same few = holds (omega (arith, le_a, le_b, same)) few

-- of two counts one went on, and something is refused
pub is_refused : (r r_now e f : ℕ) (Holds : Type 0) → (r < 2 ^ 64 - 1 → r < r_now) → e ≤ f → UnlessRefused (r + e) (r_now + f) Holds
is_refused r r_now e f Holds counted le same few = let more = counted (omega (arith, few)) in absurd (omega (arith, more, le, same))

pub unless_more : (r r_now e : ℕ) (Holds : Type 0) → UnlessRefused r r_now Holds → UnlessRefused (r + e) (r_now + e) Holds
unless_more r r_now e Holds holds same few = holds (omega (arith, same)) (omega (arith, few))

-- all that was said in a call
pub tells_all : (old mid new : Table) (r0 r1 r2 : ℕ) (said : List Said) → mid ≡ old → r1 ≡ r0 → TellsIn mid r1 [] new r2 said → AreTold old new said × UnlessRefused r0 r2 (LeaversAreTold old new said)
tells_all old mid new r0 r1 r2 said same same_refused tells =
    let told : AreTold mid new said = subst (AreTold mid new) (sym tells.1) tells.2 in
    let leavers : UnlessRefused r1 r2 (LeaversAreTold mid new said) = subst (λ (more : List Said). UnlessRefused r1 r2 (LeaversAreTold mid new more)) (sym tells.1) tells.3 in
    (subst (λ (t : Table). AreTold t new said) same told, subst (λ (z : Table × ℕ). UnlessRefused z.1 r2 (LeaversAreTold z.0 new said)) (λ i. (same i, same_refused i)) leavers)

-- one leaves the queue
pub shorter : (old new : List Waiting) (w : Waiting) → old ≡ w ∷ new → length new < length old
shorter old new w is = let long : length old ≡ length (w ∷ new) = ap length is in omega (arith, long)

-- what is told as commands are asked, and then as they are answered
pub pass_tells : (t0 t1 t2 t3 : Table) (r0 r1 r2 r3 : ℕ) (s0 s1 s2 : List Said) → r0 ≤ r1 → r1 ≤ r2 → r2 ≤ r3 → t2 ≡ t1 → TellsIn t0 r0 s0 t1 r1 s1 → TellsIn t2 r2 s1 t3 r3 s2 → TellsIn t0 r0 s0 t3 r3 s2
pass_tells t0 t1 t2 t3 r0 r1 r2 r3 s0 s1 s2 le_a le_b le_c same first second =
    tells_on t0 t2 t3 r0 r2 r3 s0 s1 s2 (omega (arith, le_a, le_b)) le_c (tells_on t0 t1 t2 r0 r1 r2 s0 s1 s1 le_a le_b first (tells_same t1 t2 r1 r2 s1 s1 same refl)) second

-- ---- what waits is asked

pub asks_same : (v now : ServiceView) → now.queue ≡ v.queue → now.waiting ≡ v.waiting → AsksAll v → AsksAll now
asks_same v now queue waiting asks = ⊎_elim
    (λ (none : v.queue ≡ []). inl (queue ∙ none))
    (λ (all : AllWait v.waiting). inr (subst AllWait (sym waiting) all))
    asks

-- nothing was answered
pub asked_and_rests : (v1 v2 v3 : ServiceView) (r0 r1 r2 r3 : ℕ) → r0 ≤ r1 → r1 ≤ r2 → r2 ≤ r3 → UnlessRefused r0 r1 (AsksAll v1) → (v2.queue ≡ v1.queue) × (v2.waiting ≡ v1.waiting) → (v3.queue ≡ v2.queue) × (v3.waiting ≡ v2.waiting) → UnlessRefused r0 r3 (AsksAll v3)
asked_and_rests v1 v2 v3 r0 r1 r2 r3 le_a le_b le_c asks same again again_refused few =
    asks_same v2 v3 again.0 again.1 (asks_same v1 v2 same.0 same.1 (asks (omega (arith, le_a, le_b, le_c, again_refused)) few))

-- more came back, and then more
pub more_answers : (a b : ℕ) (v between now : ServiceView) → HasMoreAnswers a v between → HasMoreAnswers b between now → HasMoreAnswers (a + b) v now
more_answers a b v between now first second = omega (arith, first, second)

-- a call that begins with what is noted
pub work_asks : (v0 v1 now : ServiceView) → v1.answered ≡ v0.answered → v1.replicas.refused ≡ v0.replicas.refused → UnlessRefused v1.replicas.refused now.replicas.refused (AsksWhatWaits v1 now) → UnlessRefused v0.replicas.refused now.replicas.refused (AsksWhatWaits v0 now)
work_asks v0 v1 now answered refused asks same few =
    subst (λ (log : List ((ℕ × ℕ) × replies.Reply)). AsksAll now ⊎ (length log + MOST_PASSES ≤ length now.answered)) answered (asks (omega (arith, same, refused)) (omega (arith, few, refused)))
