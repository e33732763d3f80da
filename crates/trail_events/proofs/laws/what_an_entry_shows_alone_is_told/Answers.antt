use Rattle.trail_events.proofs.AloneLemmas.{alone-among}
use Rattle.trail_events.proofs.laws.what_an_entry_shows_alone_is_told.Goals as goal

pub returns : goal.returns
returns c = λ lists e f w event is shows. alone-among lists e f w event is shows
