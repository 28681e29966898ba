-- Events that lead from one world to another, one list after the other.
use Rattle.std.proofs.Common.{◌≡◌, ℕ, ◌+◌, ◌<◌, length, get_or, List, [], ◌∷◌, ◌++◌, take, refl, sym, ap, ◌∙◌, subst}
use Rattle.std.proofs.lemmas.List.{take_more}
use Rattle.events.specs.declared.event.Event.{Event}
use Rattle.events.specs.Config.{ConfigView}
use Rattle.worlds.specs.World.{WorldView, WorldNext, WorldRuns, last_world, ReachedWorlds, EndsWith, IsReached}

pub runs_append : (w : WorldView) (es fs : List Event) (xs ys : List WorldView) → WorldRuns w es xs → WorldRuns (last_world w xs) fs ys → WorldRuns w (es ++ fs) (xs ++ ys)
runs_append w [] fs [] ys runs more = more
runs_append w [] fs (x ∷ xs) ys runs more = absurd runs
runs_append w (e ∷ es) fs [] ys runs more = absurd runs
runs_append w (e ∷ es) fs (x ∷ xs) ys runs more = (runs.0, runs_append x es fs xs ys runs.1 more)

pub last_append : (w : WorldView) (xs ys : List WorldView) → last_world w (xs ++ ys) ≡ last_world (last_world w xs) ys
last_append w [] ys = refl
last_append w (x ∷ xs) ys = last_append x xs ys

-- the events lead from the first world to this one
abbrev pub LeadsTo : WorldView → List Event → WorldView → Type 0
LeadsTo first events now = (worlds : List WorldView) × WorldRuns first events worlds × (last_world first worlds ≡ now)

pub leads_nowhere : (w : WorldView) → LeadsTo w [] w
leads_nowhere w = ([], tt, refl)

pub leads_append : (a b c : WorldView) (es fs : List Event) → LeadsTo a es b → LeadsTo b fs c → LeadsTo a (es ++ fs) c
leads_append a b c es fs p q = (
  p.0 ++ q.0,
  runs_append a es fs p.0 q.0 p.1 (subst (λ (w : WorldView). WorldRuns w fs q.0) (sym p.2) q.1),
  last_append a p.0 q.0 ∙ (ap (λ (w : WorldView). last_world w q.0) p.2 ∙ q.2),
)

pub leads_on : (a b c : WorldView) (es : List Event) (e : Event) → LeadsTo a es b → WorldNext b e c → LeadsTo a (es ++ e ∷ []) c
leads_on a b c es e p next = leads_append a b c es (e ∷ []) p (c ∷ [], (next, tt), refl)

pub reached_on : (config : ConfigView) (es : List Event) (worlds : List WorldView) (w x : WorldView) (e : Event) → ReachedWorlds config es worlds → EndsWith worlds w → WorldNext w e x → IsReached config (es ++ e ∷ []) x
reached_on config es [] w x e reached ends next = absurd reached
reached_on config es (first ∷ later) w x e reached ends next = record {
  worlds = first ∷ (later ++ x ∷ []);
  reached = (reached.0, runs_append first es (e ∷ []) later (x ∷ []) reached.1 (subst (λ (y : WorldView). WorldNext y e x) (sym ends) next, tt));
  ends = last_append first later (x ∷ []);
}

-- one more event
pub reached_next : (config : ConfigView) (es : List Event) (i : ℕ) (e : Event) (w x : WorldView) → i < length es → e ≡ get_or es i e → IsReached config (take i es) w → WorldNext w e x → IsReached config (take (i + 1) es) x
reached_next config es i e w x long is r next =
    subst (λ (fs : List Event). IsReached config fs x) (sym (take_more es i e long))
    (reached_on config (take i es) r.worlds w x (get_or es i e) r.reached r.ends (subst (λ (d : Event). WorldNext w d x) is next))
