use Rattle.following.proofs.RuleLemmas.{decree_fits, order_fits, parcel_fits, dropped_fits, ask_fits, need_fits, wait_fits}
use Rattle.following.proofs.following.Following.next.Goals as goal

pub returns-clause-decree : goal.returns-clause-decree
returns-clause-decree c = λ n is. (decree_fits c.args.self.now c.args.report c.args.held.now c.action-action.result c.action-action.ensures n is)

pub returns-clause-order : goal.returns-clause-order
returns-clause-order c = λ n is. (order_fits c.args.self.now c.args.report c.args.held.now c.action-action.result c.action-action.ensures n is).0

pub returns-clause-room : goal.returns-clause-room
returns-clause-room c = λ n is. (order_fits c.args.self.now c.args.report c.args.held.now c.action-action.result c.action-action.ensures n is).1

pub returns-clause-parcel : goal.returns-clause-parcel
returns-clause-parcel c = λ n is. (parcel_fits c.args.self.now c.args.report c.args.held.now c.action-action.result c.action-action.ensures n is)

pub returns-clause-dropped : goal.returns-clause-dropped
returns-clause-dropped c = λ n is. (dropped_fits c.args.self.now c.args.report c.args.held.now c.action-action.result c.action-action.ensures n is)

pub returns-clause-ask : goal.returns-clause-ask
returns-clause-ask c = λ n is. (ask_fits c.args.self.now c.args.report c.args.held.now c.action-action.result c.action-action.ensures n is)

pub returns-clause-need : goal.returns-clause-need
returns-clause-need c = λ n is. (need_fits c.args.self.now c.args.report c.args.held.now c.action-action.result c.action-action.ensures n is)

pub returns-clause-wait : goal.returns-clause-wait
returns-clause-wait c = λ is. wait_fits c.args.self.now c.args.report c.args.held.now c.action-action.result c.action-action.ensures is
