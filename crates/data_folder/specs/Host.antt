-- What may be found in a folder of the host, and the items that its file has.
use Rattle.std.specs.Prelude.{Option}
use Rattle.sqlite_trees.specs.Tree.{Trees}
use Rattle.sqlite_store.specs.FileStore.{view, recovers}
use Rattle.states.specs.State.{StateView}
use Rattle.data_folder.specs.Found.{SavedText, MayFind}
use Rattle.data_folder.specs.Items.{CrashLeaves, HasItemsOf}
use Rattle.data_folder.specs.declared.host.HostFolder.{HostFolder}

abbrev pub host_may_find : HostFolder → Option SavedText → Type 0
host_may_find f found = MayFind (view f.folder.shelf.rows.store) (recovers f.folder.shelf.rows.store) found

abbrev pub host_may_leave : HostFolder → Trees → Type 0
host_may_leave f db = CrashLeaves (view f.folder.shelf.rows.store) (recovers f.folder.shelf.rows.store) db

abbrev pub host_has_items : HostFolder → StateView → Type 0
host_has_items f s = HasItemsOf (view f.folder.shelf.rows.store) f.folder.shelf.waiting f.folder.last s
