-- A command's request, by its inputs.
use Rattle.std.proofs.Common.{◌≡◌, ◌≤◌, ℕ, ◌+◌, List, Option, None, Some, length, sym, ap, ◌∙◌, subst, arith}
use Rattle.std.specs.Option.{option_copied}
use Rattle.bson_doc.specs.declared.cluster_time.ClusterTime.{ClusterTime}
use Rattle.bson_doc.specs.declared.value.Document.{Document}
use Rattle.bson_wire.specs.Spelled.{spelled}
use Rattle.cmd_build.specs.Commands.{command_document}
use Rattle.cmd_build.specs.Sizes.{excess, message_size}
use Rattle.cmd_build.specs.declared.command.Command.{Command}
use Rattle.cmd_build.specs.declared.extras.Extras.{Extras}
use Rattle.cmd_build.specs.declared.extras.Sizes.{Sizes}
use Rattle.cmd_build.proofs.SizeLemmas.{fits_message}
use Rattle.conn_uri.specs.Configurations.{Configuration}
use Rattle.desk_trail.specs.declared.request.Request.{Request}
use Rattle.desk_trail.specs.Clients.{Client}
use Rattle.desk_trail.specs.Requests.{AreExtras, IsMessageOf, IsRequestOf, IsTooLarge, sizes_of}
use Rattle.desk_trail.specs.States.{ClientState, Selected}
use Rattle.request_build.specs.Inputs.{AreInputs}
use Rattle.request_build.specs.declared.sending.Sending.{Sending}

-- a command that is not too large has no more bytes than a message may
pub fits : (c : Command) (db : List ℕ) (extras : Extras) (time : Option ClusterTime) (sizes : Sizes) → sizes.max_message ≤ 48000000 → excess c db extras time sizes ≡ None →
    length (spelled (command_document c db extras time)) + 21 ≤ 48000000
fits c db extras time sizes small e =
    let less = fits_message c db extras time sizes (omega (arith, small)) e in
    omega (arith, less, small)

-- its size is that of its document and 21 bytes beside it
pub size-is : (c : Command) (db : List ℕ) (extras : Extras) (time : Option ClusterTime) (sizes : Sizes) (size : ℕ) → sizes.max_message ≤ 48000000 →
    excess c db extras time sizes ≡ None → size ≡ message_size (command_document c db extras time) → size ≡ length (spelled (command_document c db extras time)) + 21
size-is c db extras time sizes size small e told = grind (arith, told, fits c db extras time sizes small e)

-- ---- What the inputs lead to

pub request-of : (client : Client) (w : ClientState) (time : Option ℕ) (op : ℕ) (i : Sending) (stream : ℕ) (selected : Selected) (extras : Extras) (r : Request) →
    AreInputs client w time op i stream → i.running.now.selected ≡ Some selected → AreExtras client w i.command.now.act i.running.now selected extras →
    excess i.command.now i.settings.now.db extras (option_copied i.time) (sizes_of selected) ≡ None → r.stream ≡ stream →
    IsMessageOf (command_document i.command.now i.settings.now.db extras (option_copied i.time)) r → IsRequestOf client w time op r
request-of client w time op i stream selected extras r h chosen are fits on message = record {
  sends = record {
    command = i.command.now;
    given = h.given;
    running = i.running.now;
    there = h.there;
    unasked = h.unasked;
    selected = selected;
    chosen = chosen;
    host = h.host;
    ticket = h.ticket;
    conn = h.conn;
    lent = h.lent;
    server = h.server;
    at = h.at;
    extras = extras;
    are = are;
    cluster = option_copied i.time;
    greatest = h.greatest;
  };
  fits = subst (λ (s : Configuration). excess i.command.now s.db extras (option_copied i.time) (sizes_of selected) ≡ None) (sym h.settings) fits;
  stream = h.stream_there ∙ ap Some (sym on);
  message = subst (λ (s : Configuration). IsMessageOf (command_document i.command.now s.db extras (option_copied i.time)) r) (sym h.settings) message;
}

pub too-large : (client : Client) (w : ClientState) (time : Option ℕ) (op : ℕ) (i : Sending) (stream : ℕ) (selected : Selected) (extras : Extras) (size most : ℕ) →
    AreInputs client w time op i stream → i.running.now.selected ≡ Some selected → AreExtras client w i.command.now.act i.running.now selected extras →
    excess i.command.now i.settings.now.db extras (option_copied i.time) (sizes_of selected) ≡ Some (record { size = size; most = most }) → IsTooLarge client w time op size most
too-large client w time op i stream selected extras size most h chosen are over = record {
  sends = record {
    command = i.command.now;
    given = h.given;
    running = i.running.now;
    there = h.there;
    unasked = h.unasked;
    selected = selected;
    chosen = chosen;
    host = h.host;
    ticket = h.ticket;
    conn = h.conn;
    lent = h.lent;
    server = h.server;
    at = h.at;
    extras = extras;
    are = are;
    cluster = option_copied i.time;
    greatest = h.greatest;
  };
  over = subst (λ (s : Configuration). excess i.command.now s.db extras (option_copied i.time) (sizes_of selected) ≡ Some (record { size = size; most = most })) (sym h.settings) over;
}
