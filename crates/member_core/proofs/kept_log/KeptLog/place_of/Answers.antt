use Rattle.std.proofs.Common.{ap, subst, sym, ◌∙◌}
use Rattle.std.specs.Prelude.{position}
use Rattle.member_core.specs.Keys.{same_key}
use Rattle.member_core.specs.Places.{HasNoneTwice, place_by}
use Rattle.member_core.specs.declared.log.LogEntry.{LogEntry}
use Rattle.member_core.proofs.IndexLemmas.{none_twice, place_by-is}
use Rattle.member_core.proofs.ShareLemmas.{entries-of}
use Rattle.member_core.proofs.kept_log.KeptLog.place_of.Goals as goal

pub returns : goal.returns
returns c =
    let es = c.self.inside.entries in
    let is = entries-of es c.self.inside.marks.items c.args.self.now c.self.view_is c.self.invariant.marks in
    record {
      place =
          c.place_in.ensures ∙ ap (λ l. place_by c.self.inside.places l c.args.key.now) c.as_slice.ensures.value
          ∙ place_by-is c.self.inside.places es c.args.key.now c.self.invariant.places
          ∙ ap (position (λ (entry : LogEntry). same_key entry.key c.args.key.now)) (sym is);
      once = subst HasNoneTwice (sym is) (none_twice c.self.inside.places es c.self.invariant.places);
    }
