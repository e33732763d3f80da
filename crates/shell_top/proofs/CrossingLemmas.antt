-- Members in memory may cross threads: who runs commands over them hands them to `run`, which wants that of a net.
use denote.Param.Send.{IsSend, sendable, view_send}
use denote.Param.SendFields.{declared_send}
use Rattle.std.proofs.Crossing.{crosses}
use Rattle.std.proofs.option.Option.TheSendSync as option
use Rattle.bson_doc.proofs.name.Name.TheSendSync as name
use Rattle.bson_doc.proofs.rows.Rows.TheSendSync as rows
use Rattle.bson_doc.proofs.value.Value.TheLaws.TheKnot as knot
use Rattle.bson_doc.specs.contracts.value.Document as Document
use Rattle.msg_wire.specs.contracts.message.Message as Message
use Rattle.msg_wire.specs.contracts.sequence.Sequence as Sequence
use Rattle.net_link.proofs.event_log.EventLog.TheSendSync as log
use Rattle.member_hall.proofs.answer.Answer.TheSendSync as answer
use Rattle.member_hall.proofs.peer.Peer.TheSendSync as peer
use Rattle.member_hall.proofs.plan.Plan.TheSendSync as plan
use Rattle.member_hall.proofs.shares.Shares.TheSendSync as shares
use Rattle.member_hall.proofs.tail.Tail.TheSendSync as tail
use Rattle.member_hall.specs.contracts.hall.Hall as Hall
use Rattle.member_hall.specs.contracts.hall_core.HallCore as HallCore
use Rattle.member_hall.specs.contracts.late.LateRequest as LateRequest
use Rattle.member_hall.specs.contracts.line.Line as Line

document_send : IsSend Document.the_row
document_send = search (crosses, knot.crosses, sendable) depth 60 fits 20000

sequence_send : IsSend Sequence.the_row
sequence_send = declared_send Sequence.the_type (name.the_send, (rows.the_send Document.the_row document_send, tt))

message_send : IsSend Message.the_row
message_send = declared_send Message.the_type
    (search sendable, (search sendable, (search sendable, (document_send, (rows.the_send Sequence.the_row sequence_send, (search sendable, tt))))))

late_send : IsSend LateRequest.the_row
late_send = declared_send LateRequest.the_type (search sendable, (message_send, tt))

line_send : IsSend Line.the_row
line_send = view_send Line.TheInside.the_row _ _ _ _ (declared_send Line.TheInside.the_type
    (search sendable, (search sendable, (tail.the_send, (search (answer.the_send, crosses, sendable) depth 60 fits 20000, (option.the_send LateRequest.the_row late_send, (search sendable, (search sendable, tt))))))))

core_send : IsSend HallCore.the_row
core_send = view_send HallCore.TheInside.the_row _ _ _ _ (declared_send HallCore.TheInside.the_type (
  search (peer.the_send, crosses, sendable) depth 60 fits 20000,
  (
    search sendable,
    (
      shares.the_send,
      (
        search sendable,
        (
          plan.the_send,
          (
            search sendable,
            (
              search (line_send, crosses, sendable) depth 60 fits 20000,
              (
                search (crosses, sendable) depth 60 fits 20000,
                (
                  search (crosses, sendable) depth 60 fits 20000,
                  (log.the_send, (search sendable, (search (crosses, sendable) depth 60 fits 20000, tt))),
                ),
              ),
            ),
          ),
        ),
      ),
    ),
  ),
))

pub hall_send : IsSend Hall.the_row
hall_send = view_send Hall.TheInside.the_row _ _ _ _ (declared_send Hall.TheInside.the_type (core_send, tt))
