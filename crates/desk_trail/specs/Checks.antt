-- A client's checks of its servers (Server Monitoring).
use Rattle.std.specs.Prelude.{◌≡◌, ◌≤◌, ◌<◌, ◌⊎◌, ℕ, ◌+◌, ◌-◌, Bool, true, false, not, ◌&&◌, List, [], ◌∷◌, Option, None, Some, map, is_some, nat_eq, nat_le, slice_get, if◌then◌else◌}
use Rattle.std.specs.List.{list_any}
use Rattle.watch_step.specs.Checks.{HALF_SECOND}
use Rattle.watch_step.specs.Entries as check
use Rattle.watch_step.specs.Entries.{CheckEntry}
use Rattle.watch_step.specs.Ends.{is_again}
use Rattle.watch_step.specs.declared.check_end.CheckEnd.{CheckEnd}
use Rattle.watch_step.specs.declared.check_end.CheckEnd.TheVariants as check_end
use Rattle.topo_book.specs.Means.{stands_known}
use Rattle.topo_rules.specs.declared.event.TopoEvent.TheVariants as event
use Rattle.desk_trail.specs.declared.entry.CheckHow.{CheckHow}
use Rattle.desk_trail.specs.declared.entry.CheckHow.TheVariants as how
use Rattle.desk_trail.specs.Clients.{Client, connect_limit}
use Rattle.desk_trail.specs.States.{ClientState, ServerState}
use Rattle.desk_trail.specs.Owed.{Owed}
use Rattle.desk_trail.specs.Owed as owed

-- ---- When a check's entries may stand

-- The server stands in the topology, no check of it runs, and one is due (Server Monitoring, a check runs at a time).
pub record IsDue (moment : ℕ) (s : ServerState) : Type 0 where
  pub stays : s.has_left ≡ false
  pub rests : s.checks.began ≡ None
  pub due : s.checks.due ≤ moment

-- A check of the server runs since a moment.
pub record Runs (began : ℕ) (s : ServerState) : Type 0 where
  pub stays : s.has_left ≡ false
  pub since : s.checks.began ≡ Some began

-- A stream that no check and no connection had until then.
abbrev pub IsNew : ClientState → ℕ → Type 0
IsNew w stream = list_any (nat_eq stream) w.streams ≡ false

-- The stream of a check is the one that the last check kept; where it kept none it is a new one (Server Monitoring, the
-- monitor's connection is kept from check to check).
abbrev pub IsCheckStream : ClientState → Option ℕ → ℕ → Type 0
IsCheckStream w (Some kept) stream = stream ≡ kept
IsCheckStream w None stream = IsNew w stream

-- How a check that began at a moment may end at another: as late only once connectTimeoutMS is over; its sample is the time
-- between the two (Server Monitoring, connectTimeoutMS; Server Selection, Round Trip Times).
abbrev pub MayEnd : Client → ℕ → ℕ → CheckHow → Type 0
MayEnd client began moment (how.Reply sample) = sample ≡ moment - began
MayEnd client began moment how.Late = began + connect_limit client ≤ moment
MayEnd client began moment how.NoDial = ⊥
MayEnd client began moment h = Unit {0}

-- A check may end: where no stream could be made for one that is due, or where one runs (Server Monitoring).
abbrev pub MayCheckEnd : Client → ℕ → CheckHow → ServerState → Type 0
MayCheckEnd client moment how.NoDial s = IsDue moment s × (s.check_stream ≡ None)
MayCheckEnd client moment h s = (began : ℕ) × Runs began s × MayEnd client began moment h

-- A server of that number is so.
abbrev pub AtServer : ClientState → ℕ → (ServerState → Type 0) → Type 0
AtServer w host P = (s : ServerState) × (slice_get w.servers host ≡ Some s) × P s

-- ---- What they do

-- The end of a check, as its intervals know it.
abbrev pub end_of : CheckHow → CheckEnd
end_of (how.Reply sample) = check_end.Reply
end_of (how.Refused code) = check_end.Refused
end_of how.Cut = check_end.Cut
end_of how.Fault = check_end.Fault
end_of how.Late = check_end.Late
end_of (how.Bad at) = check_end.Bad
end_of how.NoDial = check_end.NoDial

abbrev pub with_checks : ℕ → CheckEntry → ServerState → ServerState
with_checks moment e s = record s { checks = check.after s.checks moment e }

-- A check begins on a stream.
abbrev pub check_begins : ℕ → ℕ → ServerState → ServerState
check_begins moment stream s = record (with_checks moment check.Began s) { check_stream = Some stream; dry = None }

-- Only behind a reply the stream is kept for the next check.
abbrev pub kept_stream : CheckHow → Option ℕ → Option ℕ
kept_stream (how.Reply sample) stream = stream
kept_stream h stream = None

-- A check ends; one for which no stream could be made begins and ends at once. Whether the server was known decides whether
-- the next is due at once.
abbrev pub check_ends : ℕ → CheckHow → Bool → ServerState → ServerState
check_ends moment how.NoDial known s =
    with_checks moment (check.Ended (is_again (end_of how.NoDial) known)) (with_checks moment check.Began s)
check_ends moment h known s =
    record (with_checks moment (check.Ended (is_again (end_of h) known)) s) { check_stream = kept_stream h s.check_stream; dry = None }

-- A check of a server that stands in the topology is asked for (Server Monitoring, requestCheck).
abbrev pub asked : ℕ → ServerState → ServerState
asked moment s = if s.has_left then s else with_checks moment check.Asked s

abbrev pub all_asked : ℕ → ClientState → ClientState
all_asked moment w = record w { servers = map (asked moment) w.servers }

-- A server leaves: a check that runs ends with it, and its stream is closed (SDAM, Updating the TopologyDescription).
abbrev pub leaves : ServerState → ServerState
leaves s = record s { has_left = true; checks = record s.checks { began = None }; check_stream = None; dry = None }

-- The stream stands among those that were dialled.
abbrev pub with_stream : ℕ → ClientState → ClientState
with_stream stream w = record w { streams = stream ∷ w.streams }

-- A check that begins takes a stream, new or kept.
abbrev pub stream_taken : Option ℕ → ℕ → ClientState → ClientState
stream_taken (Some kept) stream w = w
stream_taken None stream w = with_stream stream w

abbrev pub stream_kept : Option ServerState → Option ℕ
stream_kept None = None
stream_kept (Some s) = s.check_stream

abbrev pub kept_at : ClientState → ℕ → Option ℕ
kept_at w host = stream_kept (slice_get w.servers host)

-- The topology knows the server.
abbrev pub is_known_by : ClientState → Option ServerState → Bool
is_known_by w None = false
is_known_by w (Some s) = stands_known w.topology s.address

abbrev pub is_known_at : ClientState → ℕ → Bool
is_known_at w host = is_known_by w (slice_get w.servers host)

-- ---- What they owe

-- A reply is offered; any other end as a broken check (SDAM, Error handling; Server Monitoring).
abbrev pub offered_of : CheckHow → Option ServerState → List Owed
offered_of h None = []
offered_of (how.Reply sample) (Some s) = owed.Reply s.address sample ∷ []
offered_of h (Some s) = owed.Offered (event.Broken s.address None) ∷ []

-- The servers of which a check must begin, in the order of their numbers, counted from a number on.
abbrev pub is_due : ℕ → ServerState → Bool
is_due moment s = not s.has_left && not (is_some s.checks.began) && nat_le s.checks.due moment

abbrev pub due_from : ℕ → ℕ → List ServerState → List Owed
due_from n moment [] = []
due_from n moment (s ∷ ss) = if is_due moment s then owed.Begun n ∷ due_from (n + 1) moment ss else due_from (n + 1) moment ss

-- ---- What a selection waits for

-- A server was checked by a moment for a selection whose first look and deadline are these, at which so many hosts had been
-- named by its last look that found none: it was named only at or past the deadline; a check of it ended no earlier than half a
-- second ahead of the first look, and none is due; or a check of it runs that had no answer at or past the deadline, and that
-- began before the deadline, or is of a server that was named behind that look (Server Selection, serverSelectionTimeoutMS; own:
-- what a selection waits for before it fails).
pub data IsCheckedFor (moment first deadline known host : ℕ) (s : ServerState) : Type 0 where
  named_late : deadline ≤ s.named → IsCheckedFor moment first deadline known host s
  ended : (last : ℕ) → s.checks.ended ≡ Some last → first ≤ last + HALF_SECOND → is_due moment s ≡ false →
      IsCheckedFor moment first deadline known host s
  runs : (began dry : ℕ) → s.checks.began ≡ Some began → s.dry ≡ Some dry → deadline ≤ dry → (began < deadline) ⊎ (known ≤ host) →
      IsCheckedFor moment first deadline known host s

-- Every server of the topology was.
abbrev pub AreChecked : ClientState → (moment first deadline known : ℕ) → Type 0
AreChecked w moment first deadline known =
    (host : ℕ) (s : ServerState) → slice_get w.servers host ≡ Some s → s.has_left ≡ false → IsCheckedFor moment first deadline known host s
