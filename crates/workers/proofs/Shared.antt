-- What a closure lends to several threads is shared, if each thing that it lends is.
use mathlib.Core.List.{[], ◌∷◌}
use mir.Syntax.{Sym}
use denote.RattleType.{RattleType}
use denote.Param.Send.{IsSync, recorded_sync, struct_sync}
use denote.Struct.Declared.{shape}
use denote.Struct.Tuple.{TupleAt, type_at}

pub four_are_lent : (name : Sym) (A B C D : RattleType) → IsSync A → IsSync B → IsSync C → IsSync D → IsSync (TupleAt name (A ∷ B ∷ C ∷ D ∷ []))
four_are_lent name A B C D a b c d =
    let lent = type_at name (A ∷ B ∷ C ∷ D ∷ []) in
    recorded_sync _ _ _ lent.to_one (struct_sync (shape lent) (a, (b, (c, (d, tt)))))
