use denote.Param.{param}
use denote.Builtin.{u32}
use denote.Exit.{no}
use denote.Param.Send.{IsSend, IsSync, arg_send, param_send, param_sync, sendable, shr_send}
use Rattle.desk_share.proofs.SendLemmas.{captured_send, client_sync}
use Rattle.desk_share.proofs.lanes.fn.run_threads.scope.Goals as goal

pub spawn-spawned-requires-send-F : goal.spawn-spawned-requires-send-F
spawn-spawned-requires-send-F g c κs within =
    let s = c.requires.1.1.1.1.1.1.1.1 in
    let client = client_sync (param 1 g.row.N) g.N.Net (param_send 1 g.row.N s.0) (param 2 g.row.P) g.P.Picker (param_send 2 g.row.P s.1) (param 3 g.row.L) g.L.Listener (param_send 3 g.row.L s.2)
    (param 4 g.row.D) (param 5 g.row.C) (param 6 g.row.J) g.D.Dice g.C.Clock g.J.Opening (param_send 4 g.row.D s.3) in
    let rt : IsSync (param 0 g.row.R) = param_sync 0 g.row.R s.6 in
    let clock : IsSync (param 5 g.row.C) = param_sync 5 g.row.C s.7 in
    let gate : IsSync (param 7 g.row.G) = param_sync 7 g.row.G s.9 in
    let number : IsSend u32 = search sendable in
    param_send 1 _ (arg_send _ no _ (captured_send _ _ _ u32 _ _ (shr_send _ _ _ client) (shr_send _ _ _ rt) number (shr_send _ _ _ clock) (shr_send _ _ _ gate)))

pub lane-requires-send-P : goal.lane-requires-send-P
lane-requires-send-P g c κs within = param_send 1 _ (let s = c.requires.1.1.1.1.1.1.1.1 in s.1)

pub lane-requires-send-L : goal.lane-requires-send-L
lane-requires-send-L g c κs within = param_send 2 _ (let s = c.requires.1.1.1.1.1.1.1.1 in s.2)

pub watcher-requires-send-P : goal.watcher-requires-send-P
watcher-requires-send-P g c κs within = param_send 1 _ (let s = c.requires.1.1.1.1.1.1.1.1 in s.1)

pub watcher-requires-send-L : goal.watcher-requires-send-L
watcher-requires-send-L g c κs within = param_send 2 _ (let s = c.requires.1.1.1.1.1.1.1.1 in s.2)
