-- Worked examples of the grammar, computed.
use Rattle.std.proofs.Common.{◌≡◌, [], ◌∷◌, ◌++◌, true, false, pos, negsuc, Some, refl, replicate}
use Rattle.std.specs.Prelude.{codes}
use Rattle.proto.specs.Line.{meaning}
use Rattle.proto.specs.Grammar.{next_turn, Spells}
use Rattle.proto.specs.declared.command.StoreVerb.TheVariants.{Set}
use Rattle.proto.specs.declared.command.Command.TheVariants as command
use Rattle.proto.specs.declared.command.Update.TheVariants as update
use Rattle.proto.specs.declared.turn.Notice.TheVariants as notice
use Rattle.proto.specs.declared.turn.Turn.TheVariants.{Ask, Say, Close}

-- a block of the two bytes 13 and 10
a_block_of_line_ends : Spells (codes "set k 0 0 2\r\n\r\n\r\n") (Ask (command.Update (update.Store Set (codes "k") 0 (pos 0) (13 ∷ 10 ∷ []))) false ∷ []) []
unfolding next_turn meaning
a_block_of_line_ends = ([], refl, (refl, refl))

a_block_that_does_not_end : Spells (codes "set a 0 0 1\r\n5xxget a\r\n") (Close notice.BadChunk ∷ []) (codes "get a\r\n")
unfolding next_turn meaning
a_block_that_does_not_end = (refl, refl)

a_line_without_return : Spells (codes "set a 0 0 1\n5\r\n") (Say notice.BadFormat ∷ Say notice.UnknownName ∷ []) []
unfolding next_turn meaning
a_line_without_return = (codes "5\r\n", refl, ([], refl, (refl, refl)))

lines_without_a_command : Spells (codes "get\r\nGET a\r\n\r\n") (Say notice.BadFormat ∷ Say notice.UnknownName ∷ Say notice.UnknownName ∷ []) []
unfolding next_turn meaning
lines_without_a_command = (codes "GET a\r\n\r\n", refl, (codes "\r\n", refl, ([], refl, (refl, refl))))

a_key_of_251_bytes : next_turn (codes "get " ++ replicate 251 97 ++ codes "\r\n") ≡ Some (Say notice.BadFormat, [])
unfolding next_turn meaning
a_key_of_251_bytes = refl

a_key_of_250_bytes : next_turn (codes "get " ++ replicate 250 97 ++ codes "\r\n") ≡ Some (Ask (command.Get (replicate 250 97 ∷ [])) false, [])
unfolding next_turn meaning
a_key_of_250_bytes = refl

a_gat : next_turn (codes "gat -1 a b\r\n") ≡ Some (Ask (command.Gat (negsuc 0) (codes "a" ∷ codes "b" ∷ [])) false, [])
unfolding next_turn meaning
a_gat = refl

a_gats : next_turn (codes "gats 10 a\r\n") ≡ Some (Ask (command.Gats (pos 10) (codes "a" ∷ [])) false, [])
unfolding next_turn meaning
a_gats = refl

a_gat_without_keys : next_turn (codes "gat 10\r\n") ≡ Some (Say notice.BadFormat, [])
unfolding next_turn meaning
a_gat_without_keys = refl

a_delta_that_is_no_number : next_turn (codes "incr n x\r\n") ≡ Some (Say notice.BadDelta, [])
unfolding next_turn meaning
a_delta_that_is_no_number = refl

a_delta_of_65_bits : next_turn (codes "incr n 18446744073709551616\r\n") ≡ Some (Say notice.BadDelta, [])
unfolding next_turn meaning
a_delta_of_65_bits = refl

a_quiet_set : Spells (codes "set a 0 0 1 noreply\r\n5\r\nget a\r\n") (Ask (command.Update (update.Store Set (codes "a") 0 (pos 0) (codes "5"))) true ∷ Ask (command.Get (codes "a" ∷ [])) false ∷ []) []
unfolding next_turn meaning
a_quiet_set = (codes "get a\r\n", refl, ([], refl, (refl, refl)))

a_line_too_long : next_turn (replicate 2049 97) ≡ Some (Close notice.LineTooLong, 97 ∷ [])
unfolding next_turn meaning
a_line_too_long = refl
