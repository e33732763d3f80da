-- What a run says of its script, by what was read.
use Rattle.std.proofs.Common.{◌≡◌, ℕ, ◌≤◌, Ok, Err, List, [], ap, sym, subst, ◌∙◌}
use Rattle.net_link.specs.Causes.{HasCause}
use Rattle.cmd_build.specs.declared.command.Command.{Command}
use Rattle.script_text.specs.Scripts.{script_reading}
use Rattle.script_text.specs.Taken.{Reads}
use Rattle.script_text.specs.declared.fault.ScriptFault.{ScriptFault}
use Rattle.script_text.specs.declared.fault.ScriptRead.TheVariants as stop
use Rattle.script_text.proofs.ReadLemmas.{read-short, reading-of_source}
use Rattle.shell_top.specs.Run.{IsDone, IsReached, IsScripts, ReadsScript, Refuses, Tells}
use Rattle.shell_top.specs.declared.status.Status.{Status}
use Rattle.shell_top.specs.declared.status.Status.TheVariants as status

-- ---- what was read of the source

pub tells-ok : {tells : Type 0} (old new : List ℕ) (commands : List Command) → Reads tells old new (Ok commands) → Tells tells old (Ok commands)
tells-ok old new commands reads = record {
  text = reads.bytes;
  says = reads.says;
  of_source = λ t. ap script_reading (reads.taken.front t) ∙ reading-of_source reads.bytes new (reads.whole t tt) ∙ reads.says;
}

pub tells-fault : {tells : Type 0} (old new : List ℕ) (fault : ScriptFault) → Reads tells old new (Err (stop.Fault fault)) → Tells tells old (Err fault)
tells-fault old new fault reads = record {
  text = reads.bytes;
  says = reads.says;
  of_source = λ t. ap script_reading (reads.taken.front t) ∙ reading-of_source reads.bytes new (reads.whole t tt) ∙ reads.says;
}

-- ---- a script that was read, or refused

-- A script that has commands is not refused.
pub not-refused : {tells : Type 0} (source : List ℕ) (commands : List Command) (fault : ScriptFault) (s : Status) → Tells tells source (Ok commands) → tells
    → script_reading source ≡ Err fault → Refuses fault s
not-refused source commands fault s script t e = absurd (let ok : script_reading source ≡ Ok commands = script.of_source t in let never : ⊥ = cc in never)

pub refused-so : {tells : Type 0} (source : List ℕ) (told fault : ScriptFault) (s : Status) → s ≡ status.Script told → Tells tells source (Err told) → tells
    → script_reading source ≡ Err fault → Refuses fault s
refused-so source told fault s is script t e =
    let err : script_reading source ≡ Err told = script.of_source t in
    let same : told ≡ fault = cc in
    subst (Refuses fault) (sym is) same

-- ---- what was left of the script

-- Where its commands were sent, nothing.
pub read_to_end : {tells : Type 0} (old new : List ℕ) (commands : List Command) → Reads tells old new (Ok commands) → tells → new ≡ []
read_to_end old new commands reads t = reads.whole t tt (read-short reads.bytes commands reads.says)

-- ---- what a run says of its script, by what was read

unrefused : (tells : Type 0) (source : List ℕ) (s : Status) → IsReached s → IsScripts tells source s
unrefused tells source (status.Usage fault) reached = absurd reached
unrefused tells source (status.Script fault) reached = absurd reached
unrefused tells source status.ReadFault reached = absurd reached
unrefused tells source status.AllOk reached = tt
unrefused tells source status.SomeFailed reached = tt
unrefused tells source status.WriteFault reached = tt
unrefused tells source status.Memory reached = tt

pub script-read : {A : Type 0} {tells : Type 0} (left : A → List ℕ) (faults : A → ℕ) (old new : A) (commands : List Command) (s : Status)
    → Reads tells (left old) (left new) (Ok commands) → faults old ≤ faults new → IsReached s → ReadsScript tells left faults old new s
script-read {tells = tells} left faults old new commands s reads later reached = record {
  refused = unrefused tells (left old) s reached;
  in_script = λ t fault e. not-refused (left old) commands fault s (tells-ok (left old) (left new) commands reads) t e;
  cause = record { later = later; rose = λ is. absurd (subst IsReached is reached) };
  whole = λ t done. read_to_end (left old) (left new) commands reads t;
}

pub script-refused : {A : Type 0} {tells : Type 0} (left : A → List ℕ) (faults : A → ℕ) (old new : A) (told : ScriptFault) (s : Status)
    → Reads tells (left old) (left new) (Err (stop.Fault told)) → faults old ≤ faults new → s ≡ status.Script told → ReadsScript tells left faults old new s
script-refused {tells = tells} left faults old new told s reads later is =
    let script = tells-fault (left old) (left new) told reads in
    record {
      refused = subst (IsScripts tells (left old)) (sym is) script;
      in_script = λ t fault e. refused-so (left old) told fault s is script t e;
      cause = record { later = later; rose = λ other. absurd (let never : ⊥ = cc in never) };
      whole = λ t done. absurd (subst IsDone is done);
    }

-- The status says nothing of the script.
abbrev IsUnsaid : Status → Type 0
IsUnsaid (status.Usage fault) = Unit {0}
IsUnsaid status.ReadFault = Unit {0}
IsUnsaid status.Memory = Unit {0}
IsUnsaid _ = ⊥

unsaid : {A : Type 0} {tells : Type 0} (left : A → List ℕ) (faults : A → ℕ) (old new : A) (s : Status) → IsUnsaid s → HasCause (faults old) (faults new) (s ≡ status.ReadFault)
    → ReadsScript tells left faults old new s
unsaid left faults old new (status.Usage fault) says cause = record { refused = tt; in_script = λ t f e. tt; cause = cause; whole = λ t done. absurd done }
unsaid left faults old new status.ReadFault says cause = record { refused = tt; in_script = λ t f e. tt; cause = cause; whole = λ t done. absurd done }
unsaid left faults old new status.Memory says cause = record { refused = tt; in_script = λ t f e. tt; cause = cause; whole = λ t done. absurd done }
unsaid left faults old new (status.Script fault) says cause = absurd says
unsaid left faults old new status.AllOk says cause = absurd says
unsaid left faults old new status.SomeFailed says cause = absurd says
unsaid left faults old new status.WriteFault says cause = absurd says

pub script-unsaid : {A : Type 0} {tells : Type 0} (left : A → List ℕ) (faults : A → ℕ) (old new : A) (s t : Status) → s ≡ t → IsUnsaid t
    → HasCause (faults old) (faults new) (s ≡ status.ReadFault) → ReadsScript tells left faults old new s
script-unsaid left faults old new s t is says cause = unsaid left faults old new s (subst IsUnsaid (sym is) says) cause
