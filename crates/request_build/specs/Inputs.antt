-- What a command's request is made of (CRUD; Driver Sessions; MongoDB wire protocol).
use Rattle.std.specs.Prelude.{◌≡◌, ◌≤◌, ℕ, Option, None, Some, slice_get}
use Rattle.std.specs.Option.{option_copied}
use Rattle.bson_doc.specs.declared.cluster_time.ClusterTime.{ClusterTime}
use Rattle.cmd_build.specs.Sizes.{IsWithin, levels_of_time}
use Rattle.cmd_build.specs.declared.command.Command.{Command}
use Rattle.desk_trail.specs.declared.request.Purpose.TheVariants as purpose
use Rattle.desk_trail.specs.Clients.{Client}
use Rattle.desk_trail.specs.Requests.{IsGreatest, IsRequestOf, IsTooLarge, id_at, lsid_of}
use Rattle.desk_trail.specs.States.{ClientState, CommandState, Has, Selected, ServerState, stream_of}
use Rattle.request_build.specs.declared.made.MadeRequest.{MadeRequest}
use Rattle.request_build.specs.declared.sending.CommandRequest.{CommandRequest}
use Rattle.request_build.specs.declared.sending.CommandRequest.TheVariants as sent
use Rattle.request_build.specs.declared.sending.SendAt.{SendAt}
use Rattle.request_build.specs.declared.sending.Sending.{Sending}

-- A command whose message can be written: it chose a server, which takes no longer messages than this product writes; and neither
-- its documents nor the cluster time lie deeper than a document may (own: 48,000,000 bytes, 100 levels).
pub record IsSendable (command : Command) (c : CommandState) (time : Option ClusterTime) : Type 0 where
  pub selected : Selected
  pub chosen : c.selected ≡ Some selected
  pub size : selected.server.max_message ≤ 48000000
  pub levels : IsWithin 90 command.act
  pub time_levels : levels_of_time time ≤ 99

-- These are of a client's command of that number: its settings, the command, where it is, its session's id and the greatest cluster
-- time; and the stream is that of the connection which is lent to it, on which it asked for nothing since its choice.
pub record AreInputs (client : Client) (w : ClientState) (time : Option ℕ) (op : ℕ) (i : Sending) (stream : ℕ) : Type 0 where
  pub settings : client.settings ≡ i.settings.now
  pub given : slice_get client.commands op ≡ Some i.command.now
  pub there : slice_get w.commands op ≡ Some i.running.now
  pub unasked : i.running.now.asked ≡ None
  pub session : i.lsid ≡ lsid_of w.sessions i.running.now.session
  pub greatest : IsGreatest time (option_copied i.time)
  pub host : ℕ
  pub ticket : ℕ
  pub conn : ℕ
  pub lent : i.running.now.check_out ≡ Has host ticket conn
  pub server : ServerState
  pub at : slice_get w.servers host ≡ Some server
  pub stream_there : stream_of server conn ≡ Some stream

-- The request at that place for that command on that stream; of any client of which the inputs are, it is the command's.
pub record IsMade (i : Sending) (at : SendAt) (m : MadeRequest) : Type 0 where
  pub on : m.request.stream ≡ at.stream
  pub id : m.request.id ≡ id_at at.place
  pub is_for : m.request.purpose ≡ purpose.Command at.op
  pub again : m.bytes ≡ m.request.bytes
  pub is_of : (client : Client) (w : ClientState) (time : Option ℕ) → AreInputs client w time at.op i at.stream → IsRequestOf client w time at.op m.request

-- What the answer says: the request; or that the command of any client of which the inputs are is too large, by these sizes.
abbrev pub Answers : Sending → SendAt → CommandRequest → Type 0
Answers i at (sent.Made m) = IsMade i at m
Answers i at (sent.TooLarge size most) =
    (client : Client) (w : ClientState) (time : Option ℕ) → AreInputs client w time at.op i at.stream → IsTooLarge client w time at.op size most
