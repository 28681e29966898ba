use Rattle.std.proofs.Common.{◌≡◌, ◌∙◌, None, IsTrue, IsSomeAnd, ap, arith}
use Rattle.std.proofs.lemmas.Result.{IfOk-weaker}
use Rattle.sqlite_trees.specs.Tree.{Trees}
use Rattle.sqlite_trees.specs.View.{IsClean}
use Rattle.shelf.specs.Rows.{process_rows}
use Rattle.data_folder.specs.Found.{HasCopy, IsCopyOf}
use Rattle.data_folder.proofs.FolderLemmas.{nothing_found, copy_of_text}
use Rattle.data_folder.proofs.found_copy.found_in.Goals as goal

pub returns-in-None-clause-copy : goal.returns-in-None-clause-copy
returns-in-None-clause-copy g c =
    IfOk-weaker c.nothing.result
    (λ found. found.copy ≡ None)
    (λ found. IsClean (g.S.Store.view c.nothing.new.shelf.rows.store) → IsTrue (g.S.Store.view c.nothing.new.shelf.rows.store).is_open → HasCopy (g.S.Store.view c.nothing.new.shelf.rows.store).committed found.copy)
    (λ found none clean is_open.
    let clean_then : IsClean (g.S.Store.view c.process.new.self.rows.store) = omega (arith, c.nothing.ensures.clean, clean) in
    let later = c.nothing.ensures.same clean is_open in
    let earlier = c.process.ensures.same clean_then later.0 in
    nothing_found (g.S.Store.view c.nothing.new.shelf.rows.store).committed found.copy none (ap (λ (db : Trees). db 2) (later.1 ∙ earlier.1) ∙ (c.in_ok-process.ensures.found clean_then ∙ ap process_rows c.in-None.is)))
    c.nothing.ensures.copy

pub returns-in-Some-2-clause-copy : goal.returns-in-Some-2-clause-copy
returns-in-Some-2-clause-copy g c =
    IfOk-weaker c.found_of.result
    (λ found. IsSomeAnd found.copy (λ copy. IsCopyOf c.in-Some.field-0 copy))
    (λ found. IsClean (g.S.Store.view c.found_of.new.shelf.rows.store) → IsTrue (g.S.Store.view c.found_of.new.shelf.rows.store).is_open → HasCopy (g.S.Store.view c.found_of.new.shelf.rows.store).committed found.copy)
    (λ found is clean is_open.
    let clean_then : IsClean (g.S.Store.view c.process.new.self.rows.store) = omega (arith, c.found_of.ensures.clean, clean) in
    let later = c.found_of.ensures.same clean is_open in
    let earlier = c.process.ensures.same clean_then later.0 in
    copy_of_text (g.S.Store.view c.found_of.new.shelf.rows.store).committed c.in-Some.field-0 found.copy (ap (λ (db : Trees). db 2) (later.1 ∙ earlier.1) ∙ (c.in_ok-process.ensures.found clean_then ∙ ap process_rows c.in-Some.is)) is)
    c.found_of.ensures.is
