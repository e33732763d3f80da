-- What stops the reading of words.
use Rattle.std.specs.Prelude.{◌≡◌, ⊤, Result, Ok, Err}
use Rattle.run_words.specs.declared.fault.UseFault.{UseFault}
use Rattle.run_words.specs.declared.fault.UseFault.TheVariants as fault
use Rattle.run_words.specs.declared.words.WordStop.{WordStop}
use Rattle.run_words.specs.declared.words.WordStop.TheVariants as stop

-- Words that have the form `run URI`, or the form `soak SEED N` with numbers in range. Of these only a connection string can
-- still be at fault.
abbrev pub IsInForm : {A : Type 0} → Result A UseFault → Type 0
IsInForm (Ok task) = ⊤
IsInForm (Err (fault.Uri first)) = ⊤
IsInForm (Err _) = ⊥

-- The words are refused for that fault; memory is wanted only for words that are in form.
abbrev pub Stops : {A : Type 0} → WordStop → Result A UseFault → Type 0
Stops (stop.Fault first) asked = asked ≡ Err first
Stops stop.Memory asked = IsInForm asked
