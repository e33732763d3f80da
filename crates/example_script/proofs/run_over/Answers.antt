use denote.Exit.{no}
use denote.Param.Send.{arg_send, param_send}
use Rattle.shell_top.proofs.CrossingLemmas.{hall_send}
use Rattle.example_script.proofs.run_over.Goals as goal

pub run-ended-requires-send-N : goal.run-ended-requires-send-N
run-ended-requires-send-N g c κs within = param_send 3 _ (arg_send _ no _ hall_send)
