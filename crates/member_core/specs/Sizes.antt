-- How much of a set its members tell in a hello.
-- own: the bound; it keeps the longest answer of a member, a hello, below what a message may have.
use Rattle.std.specs.Prelude.{◌+◌, ◌≤◌, ℕ, List, length, sum_by}
use Rattle.host_name.specs.Addresses.{Address, address_text}

-- The bytes of a host as it is displayed, and 64 more: what a document has around a text, and the digits of its place.
abbrev pub host_size : Address → ℕ
host_size host = length (address_text host) + 64

-- The bytes of the set's name and of the displayed hosts, with 64 more for the name and for each host.
abbrev pub set_size : List ℕ → List Address → ℕ
set_size set hosts = length set + 64 + sum_by host_size hosts

-- The most that they come to. There are fewer than 234,375 hosts, then.
abbrev pub most_set_size : ℕ
most_set_size = 15000000

-- The set's name and the hosts are within the bound.
abbrev pub IsWithin : List ℕ → List Address → Type 0
IsWithin set hosts = set_size set hosts ≤ most_set_size
