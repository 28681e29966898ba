-- Steps of the machine of executors, and the decrees that its letters make chosen.
use Rattle.std.proofs.Common.{◌≡◌, ℕ, zero, suc, ◌+◌, ◌-◌, List, [], ◌∷◌, ◌++◌, length, take, Some, refl, sym, ◌∙◌, ap, subst, arith, append_assoc, slice_get}
use Rattle.std.proofs.lemmas.List.{append-nil}
use Rattle.decrees.specs.declared.decree.Decree.{Decree}
use Rattle.decrees.specs.declared.ballot.Ballot.{Ballot}
use Rattle.decrees.specs.declared.node.Node.TheVariants.{Executor, Verifier}
use Rattle.executor.specs.Work.{TentativeView}
use Rattle.agreement_laws.specs.Letters.{Letters, RestsOn}
use Rattle.agreement_laws.specs.Machine as machine
use Rattle.agreement_laws.specs.Machine.{letters_of}
use Rattle.agreement_laws.specs.ChosenList.{chosen}
use Rattle.agreement_laws.proofs.Proved.{list_is_backed, list_grows}
use Rattle.agreement_laws.proofs.Places.{index_at}
use Rattle.custody_laws.specs.Durable.{Durable, In}
use Rattle.custody_laws.specs.Machine.{ExecutorMachine, said_of, Next, Choose, Say, Reached}

-- so many steps
pub data Steps (u : ℕ) : ExecutorMachine → ExecutorMachine → Type 0 where
  none : {m : ExecutorMachine} → Steps u m m
  more : {m v now : ExecutorMachine} → Steps u m v → Next u v now → Steps u m now

pub steps_reached : (u : ℕ) (before : List ExecutorMachine) (m now : ExecutorMachine) → Reached u before m → Steps u m now → (earlier : List ExecutorMachine) × Reached u earlier now
steps_reached u before m now r none = (before, r)
steps_reached u before m now r (more {v = v} s next) = let h = steps_reached u before m v r s in (v ∷ h.0, (h.1, next))

-- what is said to so many verifiers
abbrev pub said_below : ℕ → ℕ → Ballot → Letters
said_below e zero b = []
said_below e (suc n) b = said_below e n b ++ record { from = Executor e; to = Verifier n; body = b } ∷ []

pub say_all : (u e : ℕ) (start m : ExecutorMachine) (x : Durable) (t : TentativeView) (n : ℕ) → slice_get m.executors e ≡ Some x → In t x.chain → Steps u start m → Steps u start (record m { letters = m.letters ++ said_below e n (said_of t) })
say_all u e start m x t zero at has s = subst (λ (ls : Letters). Steps u start (record m { letters = ls })) (sym (append-nil m.letters)) s
say_all u e start m x t (suc n) at has s =
    subst (λ (ls : Letters). Steps u start (record m { letters = ls })) (append_assoc m.letters (said_below e n (said_of t)) (record { from = Executor e; to = Verifier n; body = said_of t } ∷ []))
    (more (say_all u e start m x t n at has s) (Say e x t (Verifier n) at has))

-- decrees that rest on those before them are chosen one after another
choose_all : (u : ℕ) (start m : ExecutorMachine) (new : List Decree) → ((i : ℕ) (d : Decree) → slice_get new i ≡ Some d → RestsOn u m.letters (m.decrees ++ take i new) d) → Steps u start m → Steps u start (record m { decrees = m.decrees ++ new })
choose_all u start m [] rests s = subst (λ (ds : List Decree). Steps u start (record m { decrees = ds })) (sym (append-nil m.decrees)) s
choose_all u start m (d ∷ new) rests s =
    let first : RestsOn u m.letters m.decrees d = subst (λ (ds : List Decree). RestsOn u m.letters ds d) (append-nil m.decrees) (rests 0 d refl) in
    let rest = choose_all u start (record m { decrees = m.decrees ++ d ∷ [] }) new
    (λ i e at. subst (λ (ds : List Decree). RestsOn u m.letters ds e) (sym (append_assoc m.decrees (d ∷ []) (take i new))) (rests (suc i) e at))
    (more s (Choose d first)) in
    subst (λ (ds : List Decree). Steps u start (record m { decrees = ds })) (append_assoc m.decrees (d ∷ []) new) rest

get_right : (xs ys : List Decree) (i : ℕ) (d : Decree) → slice_get ys i ≡ Some d → slice_get (xs ++ ys) (length xs + i) ≡ Some d
get_right [] ys i d e = let same : i ≡ 0 + i = omega arith in subst (λ k. slice_get ys k ≡ Some d) same e
get_right (x ∷ xs) ys i d e = let same : suc (length xs + i) ≡ suc (length xs) + i = omega arith in subst (λ k. slice_get (x ∷ (xs ++ ys)) k ≡ Some d) same (get_right xs ys i d e)

take_right : (xs ys : List Decree) (i : ℕ) → take (length xs + i) (xs ++ ys) ≡ xs ++ take i ys
take_right [] ys i = let same : 0 + i ≡ i = omega arith in ap (λ k. take k ys) same
take_right (x ∷ xs) ys i = let same : suc (length xs) + i ≡ suc (length xs + i) = omega arith in ap (λ k. take k (x ∷ (xs ++ ys))) same ∙ ap (λ (l : List Decree). x ∷ l) (take_right xs ys i)

-- the decrees that letters which were sent make chosen
pub chosen_then : (u : ℕ) (events later : List machine.Event) (m : ExecutorMachine) → m.letters ≡ letters_of u (events ++ later) → m.decrees ≡ chosen u (letters_of u events)
    → Steps u m (record m { decrees = chosen u (letters_of u (events ++ later)) })
chosen_then u events later m letters_are decrees_are =
    let g = list_grows u events later in
    let backed = list_is_backed u (events ++ later) in
    let ds : chosen u (letters_of u (events ++ later)) ≡ m.decrees ++ g.0 = g.1 ∙ ap (λ (l : List Decree). l ++ g.0) (sym decrees_are) in
    let done = choose_all u m m g.0
    (λ i d at.
    let there : slice_get (chosen u (letters_of u (events ++ later))) (length m.decrees + i) ≡ Some d = subst (λ (l : List Decree). slice_get l (length m.decrees + i) ≡ Some d) (sym ds) (get_right m.decrees g.0 i d at) in
    let rests = backed.rests (length m.decrees + i + 1) d (index_at (chosen u (letters_of u (events ++ later))) (length m.decrees + i + 1) (length m.decrees + i) d refl there) in
    let before : take (length m.decrees + i + 1 - 1) (chosen u (letters_of u (events ++ later))) ≡ m.decrees ++ take i g.0 =
    ap (λ k. take k (chosen u (letters_of u (events ++ later)))) (let e : length m.decrees + i + 1 - 1 ≡ length m.decrees + i = omega arith in e)
    ∙ (ap (λ (l : List Decree). take (length m.decrees + i) l) ds ∙ take_right m.decrees g.0 i) in
    subst (λ (z : Letters × List Decree). RestsOn u z.0 z.1 d) (λ j. (sym letters_are j, before j)) rests)
    none in
    subst (λ (l : List Decree). Steps u m (record m { decrees = l })) (sym ds) done
