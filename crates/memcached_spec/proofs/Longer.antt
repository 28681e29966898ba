-- What bytes ask stays if more bytes come.
use Rattle.std.proofs.Common.{◌≡◌, ℕ, zero, suc, ◌-◌, List, [], ◌∷◌, ◌++◌, length, Some, sym, ◌∙◌, ap, subst, arith, append_assoc, slice_get}
use Rattle.proto.specs.declared.command.Command.{Command}
use Rattle.proto.specs.declared.turn.Turn.{Turn}
use Rattle.proto.specs.declared.turn.Turn.TheVariants.{Ask, Say, Close}
use Rattle.proto.proofs.SpellsLemmas.{spells_some, spells_longer}
use Rattle.memcached_spec.specs.Asked.{asked, Front, IsAsked}

command_stays : (turns more : List Turn) (k : ℕ) (command : Command) → slice_get (asked turns) k ≡ Some command → slice_get (asked (turns ++ more)) k ≡ Some command
command_stays [] more k command e = absurd (cc e)
command_stays (Ask c quiet ∷ turns) more zero command e = e
command_stays (Ask c quiet ∷ turns) more (suc k) command e = command_stays turns more k command e
command_stays (Say notice ∷ turns) more k command e = command_stays turns more k command e
command_stays (Close notice ∷ turns) more k command e = command_stays turns more k command e

pub asked_longer : (bytes more : List ℕ) (number : ℕ) (command : Command) → IsAsked bytes number command → IsAsked (bytes ++ more) number command
asked_longer bytes more number command is =
    let s = spells_some (suc (length (bytes ++ more))) (bytes ++ more) (omega arith) in
    let longer = spells_longer bytes more is.turns s.0 is.rest s.1 is.spells s.2 in
    record {
      turns = s.0;
      rest = s.1;
      spells = s.2;
      from_one = is.from_one;
      is = subst (λ (turns : List Turn). slice_get (asked turns) (number - 1) ≡ Some command) (sym longer.1) (command_stays is.turns longer.0 (number - 1) command is.is);
    }

pub front_longer : (bytes more : List ℕ) (taken : List Turn) → Front bytes taken → Front (bytes ++ more) taken
front_longer bytes more taken front =
    let s = spells_some (suc (length (bytes ++ more))) (bytes ++ more) (omega arith) in
    let longer = spells_longer bytes more front.turns s.0 front.rest s.1 front.spells s.2 in
    record { turns = s.0; rest = s.1; more = front.more ++ longer.0; spells = s.2; is = longer.1 ∙ (ap (λ (turns : List Turn). turns ++ longer.0) front.is ∙ append_assoc taken front.more longer.0) }
