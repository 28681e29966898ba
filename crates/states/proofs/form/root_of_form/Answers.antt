use Rattle.std.proofs.Common.{ap, sym, ◌∙◌, subst}
use Rattle.token.specs.declared.form.Form.{Form}
use Rattle.pages.specs.declared.layout.Layout.{Layout}
use Rattle.pages.specs.Form.{root_by, root_in, layout_of, FitForm}
use Rattle.pages.proofs.FormLemmas.{old_texts, root_sorted}
use Rattle.states.proofs.form.root_of_form.Goals as goal

pub old_root-requires-clause-sorted : goal.old_root-requires-clause-sorted
old_root-requires-clause-sorted c = c.requires.laid ∙ ap layout_of c.in-Old.is

pub old_root-requires-clause-texts : goal.old_root-requires-clause-texts
old_root-requires-clause-texts c = old_texts c.args.pages.now.items (subst (λ (f : Form). FitForm f c.args.pages.now.items) c.in-Old.is c.requires.fit)

pub returns-in-Old : goal.returns-in-Old
returns-in-Old c = c.old_root.ensures ∙ ap (λ (f : Form). root_by f c.args.pages.now.items) (sym c.in-Old.is)

pub returns-in-Current : goal.returns-in-Current
returns-in-Current c =
    let m = c.args.pages.now.items in
    c.root.ensures ∙ ap (λ (l : Layout). root_in l m) (c.requires.laid ∙ ap layout_of c.in-Current.is) ∙ root_sorted m ∙ ap (λ (f : Form). root_by f m) (sym c.in-Current.is)

pub returns-in-Tree : goal.returns-in-Tree
returns-in-Tree c =
    let m = c.args.pages.now.items in
    c.root-in-Tree.ensures ∙ ap (λ (l : Layout). root_in l m) (c.requires.laid ∙ ap layout_of c.in-Tree.is) ∙ ap (λ (f : Form). root_by f m) (sym c.in-Tree.is)
