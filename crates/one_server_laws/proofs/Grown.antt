-- What was asked stays asked if more is fed.
use Rattle.std.proofs.Common.{◌≡◌, ℕ, ◌-◌, List, [], ◌∷◌, ◌++◌, sym, ◌∙◌, ap, subst, append_assoc}
use Rattle.std.proofs.lemmas.List.{append-nil}
use Rattle.std.proofs.lemmas.List.Elements.{Contains-append_left}
use Rattle.std.proofs.lemmas.List.Concat.{flat_map-append}
use Rattle.proto.specs.declared.turn.Turn.{Turn}
use Rattle.proto.specs.declared.turn.Turn.TheVariants.{Ask}
use Rattle.memcached_spec.proofs.Longer.{asked_longer, front_longer}
use Rattle.sessions.specs.declared.request.Request.{Request}
use Rattle.batches.specs.declared.batch.Batch.{Batch}
use Rattle.memcached_spec.specs.Asked.{asked, Front}
use Rattle.events.specs.declared.event.Event.{Event}
use Rattle.events.specs.declared.event.Event.TheVariants.{Cut}
use Rattle.memcached_spec.specs.Fed.{fed_by, fed_to, IsMoment}
use Rattle.memcached_spec.specs.Asked.{IsAsked}
use Rattle.worlds.specs.Asked.{IsAskedRequest, IsAskedBatch}
use Rattle.one_server_laws.specs.InTime.{WasCut}

-- ---- more events

-- what is fed to each client only grows, and cuts stay
pub record IsLater (events later : List Event) : Type 0 where
  pub fed : (client : ℕ) → (more : List ℕ) × (fed_to client later ≡ fed_to client events ++ more)
  pub moments : (moment : ℕ) → IsMoment events moment → IsMoment later moment
  pub cuts : (b : Batch) → WasCut events b → WasCut later b

pub later_by : (events more : List Event) → IsLater events (events ++ more)
later_by events more = record {
  fed = λ client. (fed_to client more, flat_map-append (fed_by client) events more);
  moments = λ moment m. (m.0, Contains-append_left events more (Cut m.0 moment) m.1);
  cuts = λ b cut. record {
    before = cut.before;
    after = cut.after ++ more;
    executor = cut.executor;
    split = ap (λ (es : List Event). es ++ more) cut.split ∙ append_assoc cut.before (Cut cut.executor b.moment ∷ cut.after) more;
    asked = cut.asked;
  };
}

module _ {events later : List Event} (on : IsLater events later) where
  pub request_later : (r : Request) → IsAskedRequest events r → IsAskedRequest later r
  request_later r is =
      let more = on.fed r.client in
      subst (λ (bytes : List ℕ). IsAsked bytes r.number r.command) (sym more.1) (asked_longer (fed_to r.client events) more.0 r.number r.command is)

  pub batch_later : (b : Batch) → IsAskedBatch events b → IsAskedBatch later b
  batch_later b is = record { requests = λ r c. request_later r (is.requests r c); moment = on.moments b.moment is.moment }

  pub front_later : (client : ℕ) (taken : List Turn) → Front (fed_to client events) taken → Front (fed_to client later) taken
  front_later client taken front =
      let more = on.fed client in
      subst (λ (bytes : List ℕ). Front bytes taken) (sym more.1) (front_longer (fed_to client events) more.0 taken front)

-- one event more
pub fed_next : (client : ℕ) (events : List Event) (e : Event) → fed_to client (events ++ e ∷ []) ≡ fed_to client events ++ fed_by client e
fed_next client events e = flat_map-append (fed_by client) events (e ∷ []) ∙ ap (λ (more : List ℕ). fed_to client events ++ more) (append-nil (fed_by client e))
