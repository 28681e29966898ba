use Rattle.site_file.proofs.member.read_member.Goals as goal

pub returns-clause-ok : goal.returns-clause-ok
returns-clause-ok c = record {
  known = c.in_ok-check_keys.ensures.ok;
  peer = c.in_ok-peer.ensures.ok;
  listen = c.in_ok-listen.ensures.ok;
  status = c.in_ok-status.ensures.ok;
}
