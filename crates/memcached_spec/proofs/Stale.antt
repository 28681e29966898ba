-- A read that misses what was stored and answered before it is in no order.
use Rattle.std.proofs.Common.{◌≡◌, ◌⊎◌, inl, inr, ⊎_elim, ℕ, zero, suc, Bool, true, false, cond, List, [], ◌∷◌, ◌++◌, length, take, map, Some, None, Option, pos, refl, sym, ap, ◌∙◌, arith, subst}
use Rattle.std.specs.Prelude.{codes, ◌==◌, if◌then◌else◌, Contains, slice_get, flat_map, nat_lt, ◌-◌}
use Rattle.std.specs.FinMap.{get, get-insert}
use Rattle.std.specs.Option.{option_map_or}
use Rattle.std.specs.Cmp.Lexicographic.{nat_list_cmp_total}
use Rattle.std.specs.declared.alloc.Global.{Global}
use Rattle.std.specs.declared.vec.Vec.{Vec}
use Rattle.std.proofs.lemmas.Bool.{eq-eqb}
use Rattle.std.proofs.lemmas.Bool.Decides.{nat_tests}
use Rattle.std.proofs.lemmas.Map.Entries.{option_filter}
use Rattle.std.proofs.lemmas.List.Elements.{Contains-append_cases, Contains-append_left, Contains-append_right}
use Rattle.proto.specs.declared.command.Command.{Command}
use Rattle.proto.specs.declared.command.Command.TheVariants as command
use Rattle.proto.specs.declared.command.Update.TheVariants as update
use Rattle.proto.specs.declared.command.StoreVerb.TheVariants.{Set}
use Rattle.proto.specs.declared.reply.Reply.{Reply}
use Rattle.proto.specs.declared.turn.Turn.{Turn}
use Rattle.proto.specs.declared.turn.Turn.TheVariants.{Ask}
use Rattle.proto.specs.Line.{meaning}
use Rattle.proto.specs.Grammar.{Spells, next_turn}
use Rattle.proto.specs.Text.{reply_text}
use Rattle.proto.proofs.SpellsLemmas.{spells_one}
use Rattle.items.specs.declared.item.Item.{Item}
use Rattle.items.specs.Map.{is_alive}
use Rattle.items.proofs.AliveLemmas.{get-alive}
use Rattle.item_steps.specs.Steps.{steps, reply}
use Rattle.item_steps.specs.Effect.{updated, effect}
use Rattle.item_steps.specs.declared.step.Step.{Step}
use Rattle.item_steps.specs.declared.step.Step.TheVariants as step
use Rattle.item_steps.specs.declared.step.Answer.{Answer}
use Rattle.item_steps.specs.declared.step.Answer.TheVariants.{Seen}
use Rattle.events.specs.declared.event.Event.{Event}
use Rattle.events.specs.declared.event.Event.TheVariants.{Feed}
use Rattle.memcached_spec.specs.Asked.{asked, TextsBy}
use Rattle.memcached_spec.specs.Fed.{fed_to}
use Rattle.memcached_spec.specs.Server.{Server, Made, Line, Tick, Do, Leads, ticked, server_stepped, at_moment, made_for, new_server}
use Rattle.memcached_spec.specs.Laws.{StaleReadIsNone}
use Rattle.memcached_spec.specs.Order.{IsExecutedFor, IsAnsweredBy, IsOrder, replies_from}

abbrev pub a_set : Command
a_set = command.Update (update.Store Set (codes "x") 0 (pos 0) (codes "1"))

abbrev pub a_get : Command
a_get = command.Get (codes "x" ∷ [])

abbrev pub set_step : Step
set_step = step.Update (update.Store Set (codes "x") 0 (pos 0) (codes "1"))

abbrev pub get_step : Step
get_step = step.Read (codes "x")

-- ---- what the bytes spell

pub nothing_spelled : Spells [] [] []
unfolding next_turn
nothing_spelled = (refl, refl)

pub set_spelled : Spells (codes "set x 0 0 1\r\n1\r\n") (Ask a_set false ∷ []) []
unfolding next_turn meaning
set_spelled = ([], refl, (refl, refl))

pub get_spelled : Spells (codes "get x\r\n") (Ask a_get false ∷ []) []
unfolding next_turn meaning
get_spelled = ([], refl, (refl, refl))

-- ---- a server that has the item

-- x is there, and never due
record Has (s : Server) : Type 0 where
  item : Item
  there : get s.items (codes "x") ≡ Some item
  never_due : item.due ≡ None

always_alive : (now : ℕ) (item : Item) → item.due ≡ None → is_alive now item ≡ true
always_alive now item e = ap (λ (due : Option ℕ). option_map_or (λ d. nat_lt now d) due true) e

has_ticked : (s : Server) (now : ℕ) → Has s → Has (ticked s now)
has_ticked s now h = record {
  item = h.item;
  there = get-alive s.items now (codes "x") ∙ ap (option_filter (is_alive now)) h.there ∙ ap (λ (b : Bool). cond b (Some h.item) None) (always_alive now h.item h.never_due);
  never_due = h.never_due;
}

abbrev pub new_one : Server → ℕ → Item
new_one s unique = record { block = codes "1"; flags = 0; due = None; unique = unique }

has_set : (s : Server) (client unique : ℕ) (answer : Answer) → Has (server_stepped s (record { client = client; step = set_step; unique = unique; answer = answer }))
unfolding updated
has_set s client unique answer = record {
  item = new_one s unique;
  there = get-insert nat_list_cmp_total s.items (codes "x") (new_one s unique) (codes "x");
  never_due = refl;
}

-- ---- lines that only set and get x

abbrev AreSteps : List Line → Type 0
AreSteps lines = (d : Made) → Contains lines (Do d) → (d.step ≡ set_step) ⊎ (d.step ≡ get_step)

in_head : (x : Line) (xs : List Line) → Contains (x ∷ xs) x
in_head x xs = (0, omega arith, refl)

in_tail : (x y : Line) (xs : List Line) → Contains xs y → Contains (x ∷ xs) y
in_tail x y xs (k, lt, e) = (suc k, omega (arith, lt), e)

first_or_other : (x y : Line) (xs : List Line) → Contains (x ∷ xs) y → (x ≡ y) ⊎ Contains xs y
first_or_other x y xs (zero, lt, e) = inl e
first_or_other x y xs (suc k, lt, e) = inr (k, omega (arith, lt), e)

none_in : (y : Line) → Contains [] y → ⊥
none_in y (k, lt, e) = omega (arith, lt)

same_made : (d e : Made) → Do d ≡ Do e → d ≡ e
same_made d e h = cc

-- one step more
has_next : (s : Server) (d : Made) → (d.step ≡ set_step) ⊎ (d.step ≡ get_step) → Has s ⊎ (d.step ≡ set_step) → Has (server_stepped s d)
has_next s d (inl sets) h = subst (λ (x : Step). Has (server_stepped s (record { client = d.client; step = x; unique = d.unique; answer = d.answer }))) (sym sets) (has_set s d.client d.unique d.answer)
has_next s d (inr gets) (inl h) = subst (λ (x : Step). Has (server_stepped s (record { client = d.client; step = x; unique = d.unique; answer = d.answer }))) (sym gets) h
has_next s d (inr gets) (inr sets) = absurd (let no : set_step ≡ get_step = sym sets ∙ gets in cc no)

-- it stays
has_stays : (s t : Server) (lines : List Line) → AreSteps lines → Leads s lines t → Has s → Has t
has_stays s t [] are leads h = subst Has leads h
has_stays s t (Tick now ∷ lines) are leads h = has_stays (ticked s now) t lines (λ d at. are d (in_tail (Tick now) (Do d) lines at)) leads.1 (has_ticked s now h)
has_stays s t (Do d ∷ lines) are leads h = has_stays (server_stepped s d) t lines (λ e at. are e (in_tail (Do d) (Do e) lines at)) leads.1 (has_next s d (are d (in_head (Do d) lines)) (inl h))

-- it comes with a set
has_comes : (s t : Server) (lines : List Line) (d : Made) → AreSteps lines → Leads s lines t → Contains lines (Do d) → d.step ≡ set_step → Has t
has_comes s t [] d are leads at sets = absurd (none_in (Do d) at)
has_comes s t (Tick now ∷ lines) d are leads at sets = ⊎_elim
    (λ (same : Tick now ≡ Do d). absurd (cc same))
    (λ later. has_comes (ticked s now) t lines d (λ e there. are e (in_tail (Tick now) (Do e) lines there)) leads.1 later sets)
    (first_or_other (Tick now) (Do d) lines at)
has_comes s t (Do e ∷ lines) d are leads at sets =
    let others : AreSteps lines = λ f there. are f (in_tail (Do e) (Do f) lines there) in
    ⊎_elim
    (λ (same : Do e ≡ Do d). has_stays (server_stepped s e) t lines others leads.1 (has_next s e (are e (in_head (Do e) lines)) (inr (ap (λ (m : Made). m.step) (same_made e d same) ∙ sets))))
    (λ later. has_comes (server_stepped s e) t lines d others leads.1 later sets)
    (first_or_other (Do e) (Do d) lines at)

record Sees (d : Made) : Type 0 where
  item : Item
  seen : d.answer ≡ Seen (Some item)

-- if it is there each get sees it
get_sees : (s t : Server) (lines : List Line) (d : Made) → AreSteps lines → Leads s lines t → Has s → Contains lines (Do d) → d.step ≡ get_step → Sees d
get_sees s t [] d are leads h at gets = absurd (none_in (Do d) at)
get_sees s t (Tick now ∷ lines) d are leads h at gets = ⊎_elim
    (λ (same : Tick now ≡ Do d). absurd (cc same))
    (λ later. get_sees (ticked s now) t lines d (λ e there. are e (in_tail (Tick now) (Do e) lines there)) leads.1 (has_ticked s now h) later gets)
    (first_or_other (Tick now) (Do d) lines at)
get_sees s t (Do e ∷ lines) d are leads h at gets = ⊎_elim
    (λ (same : Do e ≡ Do d). here (same_made e d same))
    (λ later. get_sees (server_stepped s e) t lines d (λ f there. are f (in_tail (Do e) (Do f) lines there)) leads.1 (has_next s e (are e (in_head (Do e) lines)) (inl h)) later gets)
    (first_or_other (Do e) (Do d) lines at)
  where
    here : e ≡ d → Sees d
    here same = record {
      item = h.item;
      seen = ap (λ (m : Made). m.answer) (sym same) ∙ leads.0 ∙ ap (λ (x : Step). (effect s.items x (at_moment s e.unique)).1) (ap (λ (m : Made). m.step) same ∙ gets) ∙ ap (λ (o : Option Item). Seen o) h.there;
    }

-- lines in two parts
leads_parts : (s t : Server) (first later : List Line) → Leads s (first ++ later) t → (m : Server) × Leads s first m × Leads m later t
leads_parts s t [] later leads = (s, refl, leads)
leads_parts s t (Tick now ∷ first) later leads = let p = leads_parts (ticked s now) t first later leads.1 in (p.0, (leads.0, p.1), p.2)
leads_parts s t (Do d ∷ first) later leads = let p = leads_parts (server_stepped s d) t first later leads.1 in (p.0, (leads.0, p.1), p.2)

-- ---- what was made for a client

abbrev pub Mades : Type 0
Mades = List Made

in_made : (client : ℕ) (lines : List Line) (d : Made) → d.client ≡ client → Contains lines (Do d) → Contains (made_for client lines) d
in_made client [] d is at = absurd (none_in (Do d) at)
in_made client (Tick now ∷ lines) d is at = ⊎_elim
    (λ (same : Tick now ≡ Do d). absurd (cc same))
    (λ later. in_made client lines d is later)
    (first_or_other (Tick now) (Do d) lines at)
in_made client (Do e ∷ lines) d is at = ⊎_elim
    (λ (same : Do e ≡ Do d).
    let e_is : e.client ≡ client = ap (λ (m : Made). m.client) (same_made e d same) ∙ is in
    subst (λ (b : Bool). Contains (if b then e ∷ made_for client lines else made_for client lines) d) (sym (eq-eqb e.client client e_is))
    (0, omega arith, same_made e d same))
    (λ later. by (e.client == client) (in_made client lines d is later))
    (first_or_other (Do e) (Do d) lines at)
  where
    by : (b : Bool) → Contains (made_for client lines) d → Contains (if b then e ∷ made_for client lines else made_for client lines) d
    by true (k, lt, same) = (suc k, omega (arith, lt), same)
    by false there = there

made_in : (client : ℕ) (lines : List Line) (d : Made) → Contains (made_for client lines) d → Contains lines (Do d)
made_in client [] d (k, lt, e) = absurd (omega (arith, lt))
made_in client (Tick now ∷ lines) d at = in_tail (Tick now) (Do d) lines (made_in client lines d at)
made_in client (Do e ∷ lines) d at = by (e.client == client) at (made_in client lines d)
  where
    by : (b : Bool) → Contains (if b then e ∷ made_for client lines else made_for client lines) d → (Contains (made_for client lines) d → Contains lines (Do d)) → Contains (Do e ∷ lines) (Do d)
    by true (zero, lt, same) deeper = (0, omega arith, ap (λ (m : Made). Do m) same)
    by true (suc k, lt, same) deeper = in_tail (Do e) (Do d) lines (deeper (k, omega (arith, lt), same))
    by false there deeper = in_tail (Do e) (Do d) lines (deeper there)

-- the steps of a client whose bytes ask nothing, or one command of one step
none_made : (lines : List Line) (client : ℕ) (all : List ℕ) → Spells all [] all → IsExecutedFor lines client all → made_for client lines ≡ []
none_made lines client all nothing x =
    let turns : x.turns ≡ [] = (spells_one all x.turns [] x.rest all x.spells nothing).0 in
    no_steps (made_for client lines) (x.made ∙ ap (λ (ts : List Turn). flat_map steps (take x.count (asked ts))) turns ∙ taken_none x.count)
  where
    taken_none : (n : ℕ) → flat_map steps (take n []) ≡ []
    taken_none zero = refl
    taken_none (suc n) = refl

    no_steps : (ds : Mades) → map (λ d. d.step) ds ≡ [] → ds ≡ []
    no_steps [] e = refl
    no_steps (d ∷ ds) e = absurd (cc e)

one_step : (lines : List Line) (client : ℕ) (all rest : List ℕ) (command : Command) (only : Step) → steps command ≡ only ∷ [] → Spells all (Ask command false ∷ []) rest → IsExecutedFor lines client all
    → (d : Made) → Contains (made_for client lines) d → d.step ≡ only
one_step lines client all rest command only one spelled x d at =
    let turns : x.turns ≡ Ask command false ∷ [] = (spells_one all x.turns (Ask command false ∷ []) x.rest rest x.spells spelled).0 in
    by x.count (made_for client lines) (x.made ∙ ap (λ (ts : List Turn). flat_map steps (take x.count (asked ts))) turns) at
  where
    by : (n : ℕ) (ds : Mades) → map (λ m. m.step) ds ≡ flat_map steps (take n (command ∷ [])) → Contains ds d → d.step ≡ only
    by zero [] e (k, lt, same) = absurd (omega (arith, lt))
    by zero (m ∷ ds) e c = absurd (cc e)
    by (suc n) ds e c = among ds (e ∙ just n) c
      where
        just : (k : ℕ) → flat_map steps (take (suc k) (command ∷ [])) ≡ only ∷ []
        just zero = ap (λ (xs : List Step). xs ++ []) one
        just (suc k) = ap (λ (xs : List Step). xs ++ []) one

        among : (ds : Mades) → map (λ m. m.step) ds ≡ only ∷ [] → Contains ds d → d.step ≡ only
        among [] f (k, lt, same) = absurd (omega (arith, lt))
        among (m ∷ []) f (zero, lt, same) = ap (λ (y : Made). y.step) (sym same) ∙ cc f
        among (m ∷ []) f (suc k, lt, same) = absurd (omega (arith, lt))
        among (m ∷ n ∷ ds) f c = absurd (cc f)

-- ---- what was answered

-- A client whose bytes ask one command of one step was given something: that step was made, and the reply to its answer is what was given.
record Answered (lines : List Line) (client : ℕ) (command : Command) (only : Step) (given : List ℕ) : Type 0 where
  made : Made
  there : Contains (made_for client lines) made
  is : made.step ≡ only
  text : given ≡ reply_text (reply command (made.answer ∷ [])) ++ []

answered_one : (lines : List Line) (client : ℕ) (all rest : List ℕ) (command : Command) (only : Step) (b : ℕ) (given : List ℕ) → steps command ≡ only ∷ [] → Spells all (Ask command false ∷ []) rest
    → IsAnsweredBy lines client all (b ∷ given) → Answered lines client command only (b ∷ given)
answered_one lines client all rest command only b given one spelled a =
    let x = a.executed in
    let turns : x.turns ≡ Ask command false ∷ [] = (spells_one all x.turns (Ask command false ∷ []) x.rest rest x.spells spelled).0 in
    let found = by x.turns turns a.taken a.more a.first x.count (made_for client lines) x.made a.texts in
    record { made = found.0; there = found.1; is = found.2; text = found.3 }
  where
    P : List Turn → ℕ → Mades → ℕ → Reply → Type 0
    P ts n ds number r = slice_get (replies_from (take n (asked ts)) (map (λ d. d.answer) ds)) (number - 1) ≡ Some r

    one_made : (n : ℕ) (ds : Mades) (r : Reply) (more : List ℕ) → map (λ d. d.step) ds ≡ flat_map steps (take n (command ∷ [])) → slice_get (replies_from (take n (command ∷ [])) (map (λ d. d.answer) ds)) 0 ≡ Some r
        → b ∷ given ≡ reply_text r ++ more → more ≡ [] → (m : Made) × Contains ds m × (m.step ≡ only) × (b ∷ given ≡ reply_text (reply command (m.answer ∷ [])) ++ [])
    one_made zero ds r more e got text none = absurd (let f : None ≡ Some r = got in cc f)
    one_made (suc n) ds r more e got text none = among ds (e ∙ just n) got
      where
        just : (k : ℕ) → flat_map steps (take (suc k) (command ∷ [])) ≡ only ∷ []
        just zero = ap (λ (xs : List Step). xs ++ []) one
        just (suc k) = ap (λ (xs : List Step). xs ++ []) one

        among : (ds : Mades) → map (λ m. m.step) ds ≡ only ∷ [] → slice_get (replies_from (take (suc n) (command ∷ [])) (map (λ d. d.answer) ds)) 0 ≡ Some r
            → (m : Made) × Contains ds m × (m.step ≡ only) × (b ∷ given ≡ reply_text (reply command (m.answer ∷ [])) ++ [])
        among [] f g = absurd (cc f)
        among (m ∷ k ∷ ds) f g = absurd (cc f)
        among (m ∷ []) f g =
            let is : reply command (take (length (steps command)) (m.answer ∷ [])) ≡ r = cc g in
            let same : reply command (m.answer ∷ []) ≡ r = sym (ap (λ (xs : List Step). reply command (take (length xs) (m.answer ∷ []))) one) ∙ is in
            (m, (0, omega arith, refl), cc f, text ∙ ap (λ (y : Reply). reply_text y ++ more) (sym same) ∙ ap (λ (ys : List ℕ). reply_text (reply command (m.answer ∷ [])) ++ ys) none)

    no_more : (xs ys : List Turn) → xs ++ ys ≡ [] → xs ≡ []
    no_more [] ys e = refl
    no_more (x ∷ xs) ys e = absurd (cc e)

    by : (ts : List Turn) → ts ≡ Ask command false ∷ [] → (taken more : List Turn) → ts ≡ taken ++ more → (n : ℕ) (ds : Mades) → map (λ d. d.step) ds ≡ flat_map steps (take n (asked ts))
        → TextsBy (P ts n ds) 1 taken (b ∷ given) → (m : Made) × Contains ds m × (m.step ≡ only) × (b ∷ given ≡ reply_text (reply command (m.answer ∷ [])) ++ [])
    by ts is [] more first n ds made texts = absurd (let no : b ∷ given ≡ [] = texts in cc no)
    by ts is (t ∷ taken) more first n ds made texts =
        let both : t ∷ (taken ++ more) ≡ Ask command false ∷ [] = sym first ∙ is in
        let head : t ≡ Ask command false = cc both in
        let tail : taken ≡ [] = no_more taken more (cc both) in
        let all_taken : t ∷ taken ≡ Ask command false ∷ [] = λ i. head i ∷ tail i in
        let texts_now : TextsBy (P ts n ds) 1 (Ask command false ∷ []) (b ∷ given) = subst (λ (xs : List Turn). TextsBy (P ts n ds) 1 xs (b ∷ given)) all_taken texts in
        let got = subst (λ (xs : List Turn). slice_get (replies_from (take n (asked xs)) (map (λ d. d.answer) ds)) 0 ≡ Some texts_now.0) is texts_now.2 in
        one_made n ds texts_now.0 texts_now.1 (made ∙ ap (λ (xs : List Turn). flat_map steps (take n (asked xs))) is) got texts_now.3 texts_now.4

-- ---- the history

pub eqb_is : (a b : ℕ) → (a == b) ≡ true → a ≡ b
eqb_is a b e = grind (arith, nat_tests)

module _ (set get : Vec ℕ Global) (set_is : set.items ≡ codes "set x 0 0 1\r\n1\r\n") (get_is : get.items ≡ codes "get x\r\n") where
  abbrev first_events : List Event
  first_events = Feed 1 set ∷ []

  abbrev both_events : List Event
  both_events = Feed 1 set ∷ Feed 2 get ∷ []

  set_fed : fed_to 1 first_events ≡ codes "set x 0 0 1\r\n1\r\n"
  set_fed = ap (λ (xs : List ℕ). xs ++ []) set_is

  set_fed_still : fed_to 1 both_events ≡ codes "set x 0 0 1\r\n1\r\n"
  set_fed_still = ap (λ (xs : List ℕ). xs ++ []) set_is

  get_fed : fed_to 2 both_events ≡ codes "get x\r\n"
  get_fed = ap (λ (xs : List ℕ). xs ++ []) get_is

  nothing_in : (bytes : List ℕ) → bytes ≡ [] → Spells bytes [] bytes
  nothing_in bytes e = subst (λ (xs : List ℕ). Spells xs [] xs) (sym e) nothing_spelled

  none_of : (bytes : List ℕ) → bytes ≡ [] → (lines : List Line) (client : ℕ) (d : Made) → IsExecutedFor lines client bytes → Contains (made_for client lines) d → ⊥
  none_of bytes e lines client d x at =
      let nothing = none_made lines client bytes (nothing_in bytes e) x in
      let there = subst (λ (ds : Mades). Contains ds d) nothing at in omega (arith, there.1)

  -- before the get was asked, only the set can have been made
  only_sets : (lines : List Line) → ((client : ℕ) → IsExecutedFor lines client (fed_to client first_events)) → (d : Made) → Contains lines (Do d) → d.step ≡ set_step
  only_sets lines x d at = by (1 == d.client) refl
    where
      by : (b : Bool) → (1 == d.client) ≡ b → d.step ≡ set_step
      by true e =
          let is : d.client ≡ 1 = sym (eqb_is 1 d.client e) in
          one_step lines 1 (fed_to 1 first_events) [] a_set set_step refl (subst (λ (xs : List ℕ). Spells xs (Ask a_set false ∷ []) []) (sym set_fed) set_spelled) (x 1) d (in_made 1 lines d is at)
      by false e = absurd (none_of (fed_to d.client first_events) (ap (λ (c : Bool). (if c then set.items else []) ++ []) e) lines d.client d (x d.client) (in_made d.client lines d refl at))

  -- after it, only the set and the get
  only_both : (lines : List Line) → ((client : ℕ) → IsExecutedFor lines client (fed_to client both_events)) → AreSteps lines
  only_both lines x d at = by (1 == d.client) refl (2 == d.client) refl
    where
      by : (b : Bool) → (1 == d.client) ≡ b → (c : Bool) → (2 == d.client) ≡ c → (d.step ≡ set_step) ⊎ (d.step ≡ get_step)
      by true e c f =
          let is : d.client ≡ 1 = sym (eqb_is 1 d.client e) in
          inl (one_step lines 1 (fed_to 1 both_events) [] a_set set_step refl (subst (λ (xs : List ℕ). Spells xs (Ask a_set false ∷ []) []) (sym set_fed_still) set_spelled) (x 1) d (in_made 1 lines d is at))
      by false e true f =
          let is : d.client ≡ 2 = sym (eqb_is 2 d.client f) in
          inr (one_step lines 2 (fed_to 2 both_events) [] a_get get_step refl (subst (λ (xs : List ℕ). Spells xs (Ask a_get false ∷ []) []) (sym get_fed) get_spelled) (x 2) d (in_made 2 lines d is at))
      by false e false f =
          absurd (none_of (fed_to d.client both_events) (λ i. (if e i then set.items else []) ++ ((if f i then get.items else []) ++ [])) lines d.client d (x d.client) (in_made d.client lines d refl at))

  no_order : (before more : List Line) → IsOrder first_events (codes "STORED\r\n" ∷ [] ∷ []) before → IsOrder both_events (codes "STORED\r\n" ∷ codes "END\r\n" ∷ []) (before ++ more) → ⊥
  no_order before more early late =
      let stored = answered_one before 1 (fed_to 1 first_events) [] a_set set_step 83 (codes "TORED\r\n") refl (subst (λ (xs : List ℕ). Spells xs (Ask a_set false ∷ []) []) (sym set_fed) set_spelled) (early.answered 0 (codes "STORED\r\n") refl) in
      let read = answered_one (before ++ more) 2 (fed_to 2 both_events) [] a_get get_step 69 (codes "ND\r\n") refl (subst (λ (xs : List ℕ). Spells xs (Ask a_get false ∷ []) []) (sym get_fed) get_spelled) (late.answered 1 (codes "END\r\n") refl) in
      let are : AreSteps (before ++ more) = only_both (before ++ more) late.asked_only in
      let parts = leads_parts new_server late.done.last before more late.done.leads in
      let has = has_comes new_server parts.0 before stored.made (λ d at. are d (Contains-append_left before more (Do d) at)) parts.1 (made_in 1 before stored.made stored.there) stored.is in
      ⊎_elim
      (λ (in_before : Contains before (Do read.made)). let no : set_step ≡ get_step = sym (only_sets before early.asked_only read.made in_before) ∙ read.is in absurd (cc no))
      (λ in_more.
      let sees = get_sees parts.0 late.done.last more read.made (λ d at. are d (Contains-append_right before more (Do d) at)) parts.2 has in_more read.is in
      wrong read.made.answer sees.item sees.seen read.text)
      (Contains-append_cases before more (Do read.made) (made_in 2 (before ++ more) read.made read.there))
    where
      first_byte : List ℕ → ℕ
      first_byte [] = 0
      first_byte (x ∷ xs) = x

      wrong : (answer : Answer) (item : Item) → answer ≡ Seen (Some item) → codes "END\r\n" ≡ reply_text (reply a_get (answer ∷ [])) ++ [] → ⊥
      wrong answer item seen text =
          let shown : codes "END\r\n" ≡ reply_text (reply a_get (Seen (Some item) ∷ [])) ++ [] = text ∙ ap (λ (a : Answer). reply_text (reply a_get (a ∷ [])) ++ []) seen in
          let no : 69 ≡ 86 = ap first_byte shown in omega (arith, no)

pub stale_read_is_none : StaleReadIsNone
stale_read_is_none set get set_is get_is (lines, none, (m, early, (more, late, end))) = no_order set get set_is get_is (lines ++ m) more early late
