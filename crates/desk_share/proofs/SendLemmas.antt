-- A client's desk may cross threads, where its net, its picker, its listeners, its dice and its clock may.
use mathlib.Core.List.{List, [], ◌∷◌}
use Prim.Native.Nat.{ℕ}
use denote.Hole.{as_row}
use denote.RattleType.{RattleType}
use denote.Struct.Declared.{shape}
use denote.Struct.Field.{row_field}
use denote.Struct.Tuple.{TupleAt, field_at, type_at}
use denote.Param.Send.{IsSend, IsSync, recorded_send, sendable, struct_send, view_send}
use denote.Param.SendFields.{as_row_send, declared_send, declared_sync, variants_send}
use Rattle.std.proofs.Crossing.{crosses}
use Rattle.std.proofs.marker.PhantomData.TheSendSync as phantom
use Rattle.std.proofs.option.Option.TheSendSync as option
use Rattle.bson_doc.proofs.name.Name.TheSendSync as name
use Rattle.bson_doc.proofs.rows.Rows.TheSendSync as rows
use Rattle.bson_doc.proofs.value.Value.TheLaws.TheKnot as knot
use Rattle.bson_doc.specs.contracts.value.Document as Document
use Rattle.bson_doc.specs.contracts.name.Name as Name
use Rattle.bson_doc.specs.contracts.rows.Rows as Rows
use Rattle.read_pref.proofs.read_pref.ReadPref.TheSendSync as read
use Rattle.read_pref.specs.contracts.read_pref.ReadPref as ReadPref
use Rattle.cmd_build.specs.contracts.command.Act as Act
use Rattle.cmd_build.specs.contracts.command.Command as Command
use Rattle.conn_uri.proofs.settings.Settings.TheSendSync as settings
use Rattle.legal_trail.specs.contracts.trail.LegalTrail as LegalTrail
use Rattle.desk_trail.proofs.writer.TrailWriter.TheSendSync as writer
use Rattle.net_link.specs.declared.net.Net as Net
use Rattle.server_pick.specs.declared.picker.Picker as Picker
use Rattle.wired_trail.proofs.lines.Lines.TheSendSync as lines
use Rattle.wired_trail.proofs.pendings.Pendings.TheSendSync as pendings
use Rattle.wired_trail.specs.contracts.trail.WiredTrail as WiredTrail
use Rattle.topo_book.proofs.book.TopoBook.TheSendSync as book
use Rattle.bson_doc.specs.contracts.cluster_time.ClusterTime as ClusterTime
use Rattle.time_gossip.specs.contracts.gossip.TimeGossip as TimeGossip
use Rattle.server_state.proofs.server.Server.TheSendSync as server
use Rattle.desk_core.proofs.operation.Operation.TheSendSync as operation
use Rattle.desk_core.proofs.parts.Parts.TheSendSync as parts
use Rattle.desk_core.specs.contracts.state.Core as Core
use Rattle.desk_core.specs.contracts.desk.Desk as Desk
use Rattle.drv_events.proofs.hooks.HooksOf.TheSendSync as hooks
use Rattle.drv_events.specs.declared.listener.Listener as Listener
use Rattle.desk_hooks.specs.contracts.desk.HookedDesk as HookedDesk
use Rattle.net_link.specs.declared.clock.Clock as Clock
use Rattle.net_link.specs.declared.dice.Dice as Dice
use Rattle.desk_share.specs.declared.opening.Opening as Opening
use Rattle.desk_share.specs.contracts.client.Client as Client
use Rattle.desk_share.specs.contracts.driven.DrivenDesk as DrivenDesk

row_send : (T : RattleType) → IsSend T → IsSend (as_row (row_field T))
row_send T s = as_row_send (row_field T) s

-- What a closure that captures five values holds.
pub captured_send : (ν : List ℕ) (A B C D E : RattleType) → IsSend A → IsSend B → IsSend C → IsSend D → IsSend E → IsSend (TupleAt ν (A ∷ B ∷ C ∷ D ∷ E ∷ []))
captured_send ν A B C D E a b c d e =
    let rows : List RattleType = A ∷ B ∷ C ∷ D ∷ E ∷ [] in
    recorded_send (field_at ν rows).row _ _ (type_at ν rows).to_one (struct_send (shape (type_at ν rows)) (a, (b, (c, (d, (e, tt))))))

-- ---- Commands

document_send : IsSend Document.the_row
document_send = search (crosses, knot.crosses, sendable) depth 60 fits 20000

act_send : IsSend Act.the_row
act_send = variants_send Act.enum (
  (document_send, tt),
  (
    (document_send, (document_send, (search sendable, (search sendable, tt)))),
    (
      (document_send, (search sendable, tt)),
      (
        (document_send, (option.the_send Document.the_row document_send, tt)),
        ((document_send, (option.the_send ReadPref.the_row read.the_send, tt)), tt),
      ),
    ),
  ),
)

command_send : IsSend Command.the_row
command_send = declared_send Command.the_type (search sendable, (option.the_send Name.the_row name.the_send, (name.the_send, (act_send, tt))))

commands_send : IsSend (Rows.the_row Command.the_row)
commands_send = rows.the_send Command.the_row command_send

-- ---- Cluster times

time_send : IsSend ClusterTime.the_row
time_send = declared_send ClusterTime.the_type (search sendable, (document_send, tt))

gossip_send : IsSend TimeGossip.the_row
gossip_send = view_send TimeGossip.TheInside.the_row _ _ _ _ (declared_send TimeGossip.TheInside.the_type (option.the_send ClusterTime.the_row time_send, tt))

-- ---- The desk

legal_send : IsSend LegalTrail.the_row
legal_send = view_send LegalTrail.TheInside.the_row _ _ _ _ (declared_send LegalTrail.TheInside.the_type (settings.the_send, (commands_send, (search sendable, (writer.the_send, tt)))))

module _ (N : RattleType) (n : Net.Ghosts N.Denot) (send_n : IsSend N) where
  wired_send : IsSend (WiredTrail.the_row N n)
  wired_send = view_send (WiredTrail.TheInside.the_row N n) _ _ _ _ (declared_send (WiredTrail.TheInside.the_type N n)
      (legal_send, (row_send N send_n, (lines.the_send, (pendings.the_send, tt)))))

  core_send : IsSend (Core.the_row N n)
  core_send = view_send (Core.TheInside.the_row N n) _ _ _ _ (declared_send (Core.TheInside.the_type N n)
      (wired_send, (book.the_send, (search (crosses, server.the_send, sendable) depth 60 fits 20000, (gossip_send, (search sendable, (search sendable, (search sendable, (search sendable, tt)))))))))

  module _ (P : RattleType) (p : Picker.Ghosts P.Denot) (send_p : IsSend P) where
    pub desk_send : IsSend (Desk.the_row N P n p)
    desk_send = view_send (Desk.TheInside.the_row N P n p) _ _ _ _ (declared_send (Desk.TheInside.the_type N P n p)
        (core_send, (search (crosses, operation.the_send, sendable) depth 60 fits 20000, (parts.the_send P send_p, tt))))

    module _ (L : RattleType) (l : Listener.Ghosts L.Denot) (send_l : IsSend L) where
      hooked_send : IsSend (HookedDesk.the_row N P L n p l)
      hooked_send = view_send (HookedDesk.TheInside.the_row N P L n p l) _ _ _ _ (declared_send (HookedDesk.TheInside.the_type N P L n p l)
          (desk_send, (hooks.the_send L send_l, tt)))

      module _ (D C J : RattleType) (d : Dice.Ghosts D.Denot) (k : Clock.Ghosts C.Denot) (o : Opening.Ghosts J.Denot) (send_d : IsSend D) where
        pub driven_send : IsSend (DrivenDesk.the_row N P L D C J n p l d k o)
        driven_send = view_send (DrivenDesk.TheInside.the_row N P L D C J n p l d k o) _ _ _ _ (declared_send (DrivenDesk.TheInside.the_type N P L D C J n p l d k o)
            (hooked_send, (row_send D send_d, (search sendable, (phantom.the_send C, (phantom.the_send J, tt))))))

        pub client_sync : IsSync (Client.the_row N P L D C J n p l d k o)
        client_sync = declared_sync (Client.the_type N P L D C J n p l d k o)
            (search (crosses, sendable) depth 60 fits 20000, (search (driven_send, crosses, sendable) depth 60 fits 20000, (search (crosses, sendable) depth 60 fits 20000, (search sendable, (search sendable, (search (crosses, sendable) depth 60 fits 20000, tt))))))
