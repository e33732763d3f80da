use Rattle.std.proofs.Common.{[], map, sym, ap, ◌∙◌, arith}
use Rattle.std.proofs.lemmas.List.{append-nil}
use Rattle.host_name.specs.Addresses.{Address}
use Rattle.desk_trail.specs.Legal.{Point}
use Rattle.desk_trail.specs.Owed as owed
use Rattle.desk_core.proofs.AppendsLemmas.{Appends-room}
use Rattle.desk_core.proofs.state.Core.name_seeds.Goals as goal

pub returns-in_err-reserve-clause-appends : goal.returns-in_err-reserve-clause-appends
returns-in_err-reserve-clause-appends g c =
    rw (← c.self.view_is)
    (Appends-room c.args.moment c.self.inside.wired.trail c.reserve.new.self.trail c.reserve.new.self.trail.room (ap (λ s. s.trail) c.reserve.ensures.same))

pub name_all-requires-clause-writing : goal.name_all-requires-clause-writing
name_all-requires-clause-writing g c =
    let seeds = rw (← c.self.view_is) at c.requires.seeds in
    let begins = rw (← c.self.view_is) at c.requires.begins in
    let began = rw (← c.self.view_is) at c.requires.began in
    let last = rw (← c.self.view_is) at c.requires.last in
    let runs = rw (← c.self.view_is) at c.requires.runs in
    let none = rw (← c.self.view_is) at c.requires.none in
    let name : Address → owed.Owed = λ a. owed.Named a in
    let point = ap (λ s. s.trail.point) c.reserve.ensures.same ∙ begins in (
      [],
      0,
      record {
        runs = runs;
        owes = ap (λ (p : Point). p.owed) point ∙ ap (map name) (sym seeds) ∙ sym (append-nil (map name c.args.seeds.now));
        at = ap (λ (p : Point). p.moment) point ∙ began;
        now = last;
        space = let room = c.in_ok-reserve.ensures.room.steps in omega arith;
      },
    )
