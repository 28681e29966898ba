use Rattle.data_folder.proofs.FolderLemmas.{tells_of, tells_state}
use Rattle.data_folder.proofs.stored_record.stored_with.Goals as goal

pub returns-clause-tells : goal.returns-clause-tells
returns-clause-tells c =
    tells_of c.args.kept.now c.in_ok-stored.stored.text c.in_ok-stored.stored.state c.replicas.result.now c.next.result c.in_ok-text.text.items c.replicas.ensures c.next.ensures c.in_ok-stored.ensures.stored c.in_ok-text.ensures

pub returns-clause-state : goal.returns-clause-state
returns-clause-state c =
    tells_state c.args.kept.now c.in_ok-stored.stored.text c.in_ok-stored.stored.state c.replicas.result.now c.next.result c.in_ok-text.text.items c.in_ok-state.state c.replicas.ensures c.next.ensures c.in_ok-stored.ensures.stored c.in_ok-text.ensures c.in_ok-state.ensures
