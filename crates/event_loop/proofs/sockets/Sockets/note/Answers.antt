use Rattle.std.proofs.Common.{sym, ◌∙◌, ap}
use Rattle.slab.specs.Slab.{get}
use Rattle.event_loop.specs.Socket.{SocketView}
use Rattle.event_loop.specs.Sockets.{SocketsView, NotesListed}
use Rattle.event_loop.proofs.SocketsLemmas.{put_here, entry_listed}
use Rattle.event_loop.proofs.sockets.Sockets.note.Goals as goal

pub invariant_of-self-2 : goal.invariant_of-self-2
invariant_of-self-2 g c =
    entry_listed c.self.inside.all c.args.key c.in_ok-socket.socket.now c.note-leaver.new.self c.list.new.socket c.self.inside.visits c.list.new.self c.self.inside.next (sym c.in_ok-socket.ensures.value) c.self.invariant
    (ap (λ (s : SocketView). s.number) c.note-leaver.ensures.notes.others) (ap (λ (s : SocketView). s.is_listed) c.note-leaver.ensures.notes.others) c.list.ensures

pub returns-clause-notes : goal.returns-clause-notes
returns-clause-notes g c s e =
    put_here c.self.inside.all c.args.key c.in_ok-socket.socket.now (sym c.in_ok-socket.ensures.value) (λ a b. NotesListed a c.args.ready b) c.list.new.socket
    (c.note-leaver.new.self, c.note-leaver.ensures.notes, c.list.ensures.others) s (ap (λ (v : SocketsView). get v.all c.args.key) c.self.view_is ∙ e)
