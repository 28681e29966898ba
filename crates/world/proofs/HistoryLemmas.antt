-- The history of a play grows by what clients had been given after each event.
use Rattle.std.proofs.Common.{◌≡◌, ℕ, ◌+◌, ◌<◌, length, get_or, List, [], ◌∷◌, ◌++◌, take, map, refl, sym, ap, ◌∙◌, subst}
use Rattle.std.proofs.lemmas.List.{take_more, map-append}
use Rattle.events.specs.declared.event.Event.{Event}
use Rattle.events.specs.Config.{ConfigView}
use Rattle.memcached_spec.specs.Order.{AllGiven}
use Rattle.worlds.specs.World.{WorldView, WorldNext, ReachedWorlds, EndsWith}
use Rattle.worlds.specs.First.{first_world}
use Rattle.worlds.proofs.FirstLemmas.{reached_first}
use Rattle.worlds.proofs.LeadLemmas.{runs_append, last_append}
use Rattle.linear_laws.specs.Laws.{given_in, history_of}
use Rattle.world.specs.History.{IsHistoryOfPlay, IsHistoryTo}

-- if no event came there is one world
of_first : (c : ConfigView) (w : WorldView) (history : List AllGiven) (worlds : List WorldView) → ReachedWorlds c [] worlds → EndsWith worlds w → history ≡ given_in w ∷ [] → IsHistoryTo c [] w history
of_first c w history [] reached ends given = absurd reached
of_first c w history (first ∷ []) reached ends given = record { worlds = first ∷ []; reached = reached; ends = ends; given = given ∙ ap (λ (v : WorldView). given_in v ∷ []) (sym ends) }
of_first c w history (first ∷ x ∷ later) reached ends given = absurd reached.1

pub history_first : (c : ConfigView) (w : WorldView) (history : List AllGiven) → w ≡ first_world c → history ≡ given_in w ∷ [] → IsHistoryTo c [] w history
history_first c w history is given = let r = reached_first c w is in of_first c w history r.worlds r.reached r.ends given

history_on : (c : ConfigView) (es : List Event) (worlds : List WorldView) (w x : WorldView) (e : Event) (history : List AllGiven) → ReachedWorlds c es worlds → EndsWith worlds w → history ≡ history_of worlds → WorldNext w e x
    → IsHistoryTo c (es ++ e ∷ []) x (history ++ given_in x ∷ [])
history_on c es [] w x e history reached ends given next = absurd reached
history_on c es (first ∷ later) w x e history reached ends given next = record {
  worlds = first ∷ (later ++ x ∷ []);
  reached = (reached.0, runs_append first es (e ∷ []) later (x ∷ []) reached.1 (subst (λ (y : WorldView). WorldNext y e x) (sym ends) next, tt));
  ends = last_append first later (x ∷ []);
  given = ap (λ (h : List AllGiven). h ++ given_in x ∷ []) given ∙ ap (λ (h : List AllGiven). given_in first ∷ h) (sym (map-append given_in later (x ∷ [])));
}

pub history_next : (c : ConfigView) (es : List Event) (i : ℕ) (e : Event) (w x : WorldView) (old new : List AllGiven) → i < length es → e ≡ get_or es i e → IsHistoryTo c (take i es) w old → WorldNext w e x → new ≡ old ++ given_in x ∷ []
    → IsHistoryTo c (take (i + 1) es) x new
history_next c es i e w x old new long is h next more =
    subst (λ (xs : List AllGiven). IsHistoryTo c (take (i + 1) es) x xs) (sym more)
    (subst (λ (fs : List Event). IsHistoryTo c fs x (old ++ given_in x ∷ [])) (sym (take_more es i e long))
    (history_on c (take i es) h.worlds w x (get_or es i e) old h.reached h.ends h.given (subst (λ (d : Event). WorldNext w d x) is next)))

pub history_is : (c : ConfigView) (es : List Event) (w : WorldView) (history : List AllGiven) → IsHistoryTo c es w history → IsHistoryOfPlay c es history
history_is c es w history h = record { worlds = h.worlds; reached = h.reached; given = h.given }
