use Rattle.std.proofs.Common.{sym, subst}
use Rattle.server_pick.specs.Asked.{AsksFirst}
use Rattle.server_pick.proofs.asking.ask_first.Goals as goal

pub returns : goal.returns
returns g c =
    subst (λ xs. AsksFirst g.P.Picker.allows g.P.Picker.follows c.args.picker.now xs c.ask.new.others.items c.ask.new.picker) (sym c.in-Some.ensures.items) (c.ask.ensures.next, c.ask.ensures.kept)
