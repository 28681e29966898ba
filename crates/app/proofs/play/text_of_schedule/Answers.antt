use Rattle.std.proofs.Common.{rules}
use Rattle.app.proofs.play.text_of_schedule.Goals as goal

pub returns-clause-shown : goal.returns-clause-shown
returns-clause-shown g c = record {
  schedule = c.in_ok-config.field-0;
  spelled = c.in_ok-config.ensures.spelled;
  events = c.in_ok-events.events.items;
  made = search rules;
  world = c.in_ok-world.world;
  reached = search rules;
  printed = c.in_ok-text.ensures;
}
