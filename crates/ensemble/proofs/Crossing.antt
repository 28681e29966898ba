-- Hosts of executors go to other threads, and so does an ensemble.
use denote.Param.Send.{IsSend, IsSync, sendable}
use Rattle.std.proofs.Crossing.{crosses}
use Rattle.std.proofs.alloc.Global.TheSendSync as global
use Rattle.std.proofs.option.Option.TheSendSync as option
use Rattle.std.proofs.sync.Arc.TheSendSync as arc
use Rattle.std.proofs.vec.Vec.TheSendSync as vec
use Rattle.std.proofs.collections.VecDeque.TheSendSync as deque
use Rattle.http_server.proofs.log.Log.TheSendSync as log
use Rattle.base.proofs.text.Text.TheSendSync as text
use Rattle.proto.proofs.reply.Reply.TheSendSync as reply
use Rattle.sessions.proofs.request.Request.TheSendSync as request
use Rattle.sessions.proofs.sessions.Sessions.TheSendSync as sessions
use Rattle.batches.proofs.batch.Batch.TheSendSync as batch
use Rattle.batches.proofs.gather.Gather.TheSendSync as gather
use Rattle.token.proofs.Token.TheSendSync as token
use Rattle.token.proofs.digested.Digested.TheSendSync as digested
use Rattle.token.proofs.form.Form.TheSendSync as form
use Rattle.token.proofs.hashed_sessions.HashedSessions.TheSendSync as hashed
use Rattle.pages.proofs.layout.Layout.TheSendSync as layout
use Rattle.pages.proofs.page_set.PageSet.TheSendSync as page_set
use Rattle.pages.proofs.tree.Tree.TheSendSync as roots
use Rattle.pages.proofs.Crossing.{page_send, page_sync}
use Rattle.states.proofs.origin.Origin.TheSendSync as origin
use Rattle.executor.proofs.answered.Answered.TheSendSync as answered
use Rattle.executor.proofs.batch_request.BatchRequest.TheSendSync as batch_request
use Rattle.decrees.proofs.standing.Standing.TheSendSync as standing
use Rattle.decrees.proofs.ballot.Ballot.TheSendSync as ballot
use Rattle.decrees.proofs.node.Node.TheSendSync as node
use Rattle.decrees.proofs.node.Letter.TheSendSync as letter
use Rattle.transfer.proofs.need.Need.TheSendSync as need
use Rattle.slots.proofs.slot.Slot.TheSendSync as slot
use Rattle.pages.specs.contracts.pages.Pages as pages
use Rattle.states.specs.contracts.state.State as state
use Rattle.executor.specs.contracts.tentative.Tentative as tentative
use Rattle.executor.specs.contracts.tentative.Committed as committed
use Rattle.executor.specs.contracts.work.Work as work
use Rattle.executor.specs.contracts.saved_member.SavedMember as saved_member
use Rattle.rollback.specs.contracts.chain.Chain as chain
use Rattle.rollback.specs.contracts.saved_chain.SavedChain as saved_chain
use Rattle.transfer.specs.contracts.parcel.Parcel as parcel
use Rattle.exec_lines.specs.contracts.body.Body as body
use Rattle.exec_lines.specs.contracts.state.State as executor
use Rattle.exec_lines.specs.contracts.record.Saved as saved
use Rattle.exec_lines.specs.contracts.record.ExecutorRecord as kept
use Rattle.hosts.specs.contracts.executor_host.ExecutorHost as host
use Rattle.verifier.proofs.state.State.TheSendSync as verifier
use Rattle.proxies.proofs.proxy.Proxy.TheSendSync as proxy
use Rattle.ensemble.proofs.noted.Noted.TheSendSync as noted
use Rattle.ensemble.proofs.progress.Progress.TheSendSync as progress
use Rattle.ensemble.proofs.times.Stopwatch.TheSendSync as stopwatch
use Rattle.ensemble.specs.contracts.nodes.Nodes as nodes
use Rattle.ensemble.specs.contracts.process_record.ProcessRecord as process
use Rattle.ensemble.specs.contracts.ensemble.Ensemble as ensemble

ruleset parts = (
  page_send,
  page_sync,
  roots.the_send,
  roots.the_sync,
  text.the_send,
  reply.the_field_send,
  reply.the_send,
  request.the_field_send,
  request.the_send,
  sessions.the_send,
  batch.the_field_send,
  batch.the_send,
  gather.the_send,
  token.the_field_send,
  token.the_send,
  digested.the_send,
  form.the_field_send,
  form.the_send,
  hashed.the_send,
  layout.the_field_send,
  layout.the_send,
  layout.the_field_sync,
  layout.the_sync,
  page_set.the_send,
  origin.the_field_send,
  origin.the_send,
  answered.the_field_send,
  answered.the_send,
  batch_request.the_send,
  standing.the_field_send,
  standing.the_send,
  ballot.the_field_send,
  ballot.the_send,
  node.the_field_send,
  node.the_send,
  need.the_field_send,
  need.the_send,
  arc.the_send,
  arc.the_sync,
  vec.the_send,
  vec.the_sync,
  option.the_field_send,
  option.the_field_sync,
  option.the_send,
  option.the_sync,
  global.the_field_send,
  global.the_field_sync,
  global.the_send,
  global.the_sync,
  crosses,
)

-- what a record shares
ruleset shares = (
  text.the_sync,
  reply.the_field_sync,
  reply.the_sync,
  request.the_field_sync,
  request.the_sync,
  sessions.the_sync,
  batch.the_field_sync,
  batch.the_sync,
  gather.the_sync,
  token.the_field_sync,
  token.the_sync,
  digested.the_sync,
  form.the_field_sync,
  form.the_sync,
  hashed.the_sync,
  page_set.the_sync,
  origin.the_field_sync,
  origin.the_sync,
  answered.the_field_sync,
  answered.the_sync,
  batch_request.the_sync,
  standing.the_field_sync,
  standing.the_sync,
)

pub state_send : IsSend state.the_row
state_send = search (parts, sendable) depth 60 fits 20000

pub state_sync : IsSync state.the_row
state_sync = search (shares, parts, sendable) depth 60 fits 20000

pages_send : IsSend pages.the_row
pages_send = search (parts, sendable) depth 60 fits 20000

tentative_send : IsSend tentative.the_row
tentative_send = search (state_send, state_sync, parts, sendable) depth 60 fits 20000

committed_send : IsSend committed.the_row
committed_send = search (parts, sendable) depth 60 fits 20000

work_send : IsSend work.the_row
work_send = search (state_send, state_sync, pages_send, parts, sendable) depth 60 fits 20000

chain_send : IsSend chain.the_row
chain_send = search (committed_send, tentative_send, parts, sendable) depth 60 fits 20000

executor_send : IsSend executor.the_row
executor_send = search (chain_send, work_send, parts, sendable) depth 60 fits 20000

parcel_send : IsSend parcel.the_row
parcel_send = search (parts, sendable) depth 60 fits 20000

pub body_send : IsSend body.the_row
body_send = search (parcel_send, parts, sendable) depth 60 fits 20000

saved_member_send : IsSend saved_member.the_row
saved_member_send = search (state_send, state_sync, parts, sendable) depth 60 fits 20000

saved_chain_send : IsSend saved_chain.the_row
saved_chain_send = search (state_send, saved_member_send, parts, sendable) depth 60 fits 20000

saved_member_sync : IsSync saved_member.the_row
saved_member_sync = search (state_send, state_sync, shares, parts, sendable) depth 60 fits 20000

saved_chain_sync : IsSync saved_chain.the_row
saved_chain_sync = search (state_sync, saved_member_sync, shares, parts, sendable) depth 60 fits 20000

saved_send : IsSend saved.the_row
saved_send = search (saved_chain_send, parts, sendable) depth 60 fits 20000

saved_sync : IsSync saved.the_row
saved_sync = search (saved_chain_sync, shares, parts, sendable) depth 60 fits 20000

kept_send : IsSend kept.the_row
kept_send = search (saved_send, saved_sync, parts, sendable) depth 60 fits 20000

pub host_send : IsSend host.the_row
host_send = first_of (search (executor_send, kept_send, body_send, letter.the_send, parts, sendable) depth 60 fits 20000, search (slot.the_send, executor_send, kept_send, body_send, letter.the_send, parts, sendable) depth 60 fits 20000)

nodes_send : IsSend nodes.the_row
nodes_send = search (host_send, body_send, letter.the_send, slot.the_send, verifier.the_send, proxy.the_send, deque.the_send, parts, sendable) depth 60 fits 20000

pub process_send : IsSend process.the_row
process_send = search (kept_send, proxy.the_send, parts, sendable) depth 60 fits 20000

pub ensemble_send : IsSend ensemble.the_row
ensemble_send = search (nodes_send, process_send, noted.the_field_send, noted.the_send, progress.the_send, stopwatch.the_field_send, log.the_send, parts, sendable) depth 60 fits 20000
