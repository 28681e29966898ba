use Rattle.decrees.proofs.VoteLemmas.{insert_entry-vote}
use Rattle.decrees.proofs.votes.Votes.add.Goals as goal
use Rattle.std.proofs.Common.{◌∙◌, sym}

pub returns-in_err-insert-clause-there : goal.returns-in_err-insert-clause-there
returns-in_err-insert-clause-there c h = let e = c.if-contains_key.false in let f = c.contains_key.ensures in cc

pub returns-clause-ok : goal.returns-clause-ok
returns-clause-ok c =
    rw (← c.self.view_is) (c.in_ok-insert.ensures.entries
    ∙ insert_entry-vote c.self.inside.votes.entries c.args.key c.args.token (sym c.contains_key.ensures ∙ c.if-contains_key.false))
