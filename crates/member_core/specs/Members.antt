-- A member of a replica set as contracts see it, and what its calls make of it.
-- own: a member in memory, with one rule of elections.
use Rattle.std.specs.Prelude.{◌+◌, ◌-◌, ◌^◌, ◌==◌, ◌&&◌, min, ℕ, Bool, true, List, [], ◌∷◌, ◌++◌, Option, Some, None, is_some, filter, map, if◌then◌else◌}
use Rattle.std.specs.List.{list_any}
use Rattle.bson_doc.specs.declared.value.Document.{Document}
use Rattle.host_name.specs.Addresses.{Address}
use Rattle.net_link.specs.declared.event.Effect.{Effect}
use Rattle.net_link.specs.declared.event.Effect.TheVariants.{Added, Known, Refused, Nothing}
use Rattle.member_core.specs.Keys.{is_write, key_of, same_key}
use Rattle.member_core.specs.Logs.{times}
use Rattle.member_core.specs.declared.key.Key.{Key}
use Rattle.member_core.specs.declared.log.LogEntry.{LogEntry}

-- An entry of a member's log, and whether the member knows that its key was acknowledged.
abbrev pub Kept : Type 0
Kept = LogEntry × Bool

-- A member: the set's name, the hosts of all members and its own place among them, its log, the number of the election that
-- made it primary, none where it is not, and how often its role changed.
pub record MemberState : Type 0 where
  pub set : List ℕ
  pub hosts : List Address
  pub place : ℕ
  pub log : List Kept
  pub election : Option ℕ
  pub changes : ℕ

-- It takes writes where it is primary, by its own account: one that was deposed takes them until it follows.
abbrev pub takes_writes : MemberState → Bool
takes_writes m = is_some m.election

abbrev pub entries : List Kept → List LogEntry
entries log = map (λ kept. kept.0) log

-- Some entry of the key is marked as acknowledged.
abbrev pub is_acked : List Kept → Key → Bool
is_acked log key = list_any (λ kept. same_key kept.0.key key && kept.1) log

-- At first: member 0 is primary by election 1.
abbrev pub first_election : ℕ → Option ℕ
first_election place = if place == 0 then Some 1 else None

abbrev pub new_member : List ℕ → List Address → ℕ → MemberState
new_member set hosts place = record { set = set; hosts = hosts; place = place; log = []; election = first_election place; changes = 0 }

-- ---- An answer

-- The entry of a request with that document.
abbrev pub entry_of : Document → ℕ → ℕ → LogEntry
entry_of body stream nth = record { key = key_of body stream nth; stream = stream; nth = nth }

-- What a request does: a write is refused where the member takes none; else it is known where its key is, and is added where
-- it is not.
abbrev pub write_effect : (takes : Bool) → (times : ℕ) → Effect
write_effect takes n = if takes then (if n == 0 then Added else Known) else Refused

abbrev pub effect_of : MemberState → Document → ℕ → ℕ → Effect
effect_of m body stream nth =
    if is_write body
    then write_effect (takes_writes m) (times (key_of body stream nth) (entries m.log))
    else Nothing

-- With the key's first entry marked.
abbrev pub marked : Key → List Kept → List Kept
marked key [] = []
marked key (kept ∷ log) = if same_key kept.0.key key then (kept.0, true) ∷ log else kept ∷ marked key log

-- The log behind an answer; the last elected member marks what it acknowledges.
abbrev pub logged : (lead : Bool) → LogEntry → Effect → List Kept → List Kept
logged lead entry Added log = log ++ (entry, lead) ∷ []
logged lead entry Known log = if lead then marked entry.key log else log
logged lead entry Refused log = log
logged lead entry Nothing log = log

-- The member behind its answer to the request with that document, which is the stream's of that number. lead says that it is
-- the last elected member.
abbrev pub with_answer : MemberState → Document → ℕ → ℕ → (lead : Bool) → MemberState
with_answer m body stream nth lead = record m { log = logged lead (entry_of body stream nth) (effect_of m body stream nth) m.log }

-- ---- An election

-- One more change, as a count holds it (own: the greatest count stays).
abbrev pub next_change : ℕ → ℕ
next_change n = min (n + 1) (2 ^ 32 - 1)

-- An entry with what the last elected member knows of its key.
abbrev pub known_to : List Kept → LogEntry → Kept
known_to last entry = (entry, is_acked last entry.key)

-- The log of a member that is elected behind another one: its own entries, and behind them the acknowledged ones of the last
-- elected one whose keys it lacks. It knows as acknowledged what that one knew, of its own entries too.
abbrev pub gained_from : List Kept → List LogEntry → List LogEntry
gained_from last own = filter (λ entry. is_acked last entry.key && (times entry.key own == 0)) (entries last)

abbrev pub elected_log : Option (List Kept) → List Kept → List Kept
elected_log None own = own
elected_log (Some last) own = map (known_to last) (entries own ++ gained_from last (entries own))

-- The member behind its election of that number; last is the log of the last elected member, None where that is itself.
abbrev pub with_election : MemberState → Option (List Kept) → ℕ → MemberState
with_election m last number = record m { log = elected_log last m.log; election = Some number; changes = next_change m.changes }

-- ---- A following

-- The member behind copying a log: it takes no writes; that is a change of its role where it was primary.
abbrev pub with_log : MemberState → List Kept → MemberState
with_log m log = record m { log = log; election = None; changes = if takes_writes m then next_change m.changes else m.changes }
