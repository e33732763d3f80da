use Rattle.std.proofs.Common.{refl}
use Rattle.end_sessions.proofs.CarrierLemmas.{Carries-none}
use Rattle.end_sessions.proofs.asking.ask_of.Goals as goal

pub returns-then-len-asking-clause-carries : goal.returns-then-len-asking-clause-carries
returns-then-len-asking-clause-carries g c =
    Carries-none c.args.asking.moment c.args.asking.closings c.args.asking.lists.now c.args.wired.now c.args.wired.now c.args.carriers.now.items c.requires.ready refl c.requires.ready.room

pub returns-in-None-clause-carries : goal.returns-in-None-clause-carries
returns-in-None-clause-carries g c =
    Carries-none c.args.asking.moment c.args.asking.closings c.args.asking.lists.now c.args.wired.now c.args.wired.now c.args.carriers.now.items c.requires.ready refl c.requires.ready.room
