use Rattle.site_file.proofs.reading.site_in.Goals as goal

pub returns-in-Ok-clause-ok : goal.returns-in-Ok-clause-ok
returns-in-Ok-clause-ok c = record {
  known = c.in_ok-check_keys.ensures.ok;
  site = c.in_ok-site.ensures.ok;
  u = c.in_ok-u.ensures.ok;
  proxies = c.in_ok-proxies.ensures.ok;
  key = c.in_ok-key.ensures.ok;
  parcel_mib = c.in_ok-parcel_mib.ensures.ok;
  count = c.in-Ok.ensures.count;
  whole = c.in-Ok.ensures.whole;
  members = c.in-Ok.ensures.members;
}
