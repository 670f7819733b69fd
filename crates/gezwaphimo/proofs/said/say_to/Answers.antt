use Rattle.std.proofs.Common.{subst}
use Rattle.forms.specs.Spelling.{Short}
use Rattle.gezwaphimo.proofs.Shorts.{short_point}
use Rattle.gezwaphimo.proofs.said.say_to.Goals as goal

pub event_of-requires : goal.event_of-requires
event_of-requires g c = short_point c.in-Date.place c.in-Date.point c.in-Date.bound c.in-Date.day (subst Short c.in-Date.is c.requires)
