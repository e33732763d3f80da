-- What a client was told to do (Connection String; URI Options).
use Rattle.std.specs.Prelude.{◌≡◌, ◌≤◌, ℕ, Bool, true, false, List, [], Option, None, length}
use Rattle.std.specs.List.{IsDistinct}
use Rattle.host_name.specs.Addresses.{Address, is_same_address}
use Rattle.read_pref.specs.Preferences.{Preference}
use Rattle.read_pref.specs.declared.mode.Mode.TheVariants as mode
use Rattle.conn_uri.specs.declared.chosen.Chosen.{Chosen}

-- The seeds, the database and the options. Times are in milliseconds.
pub record Configuration : Type 0 where
  pub hosts : List Address
  pub set_name : Option (List ℕ)
  pub direct : Bool
  pub db : List ℕ
  pub read : Preference
  pub retry_writes : Bool
  pub connect_ms : ℕ
  pub socket_ms : ℕ
  pub select_ms : ℕ
  pub beat_ms : ℕ
  pub threshold_ms : ℕ
  pub wait_ms : ℕ
  pub idle_ms : ℕ
  pub max_pool : ℕ
  pub max_connecting : ℕ
  pub warnings : List (List ℕ)

-- Seeds that a client may start with: 1 to 16,777,216 hosts that differ (Connection String, Host Information; own: the
-- greatest number).
pub record AreSeeds (hosts : List Address) : Type 0 where
  pub some : 1 ≤ length hosts
  pub most : length hosts ≤ 16777216
  pub differ : IsDistinct is_same_address hosts

-- The greatest time in milliseconds; where an option's 0 stands for no limit, it is kept as this (own).
abbrev pub MOST : ℕ
MOST = 2147483647

-- What every client's configuration keeps (URI Options, the values of the options; own: the bounds).
pub record IsConfiguration (c : Configuration) : Type 0 where
  pub seeds : AreSeeds c.hosts
  pub one : c.direct ≡ true → length c.hosts ≡ 1
  pub connect : c.connect_ms ≤ MOST
  pub socket : c.socket_ms ≤ MOST
  pub select : 1 ≤ c.select_ms
  pub select_most : c.select_ms ≤ MOST
  pub beat : 500 ≤ c.beat_ms
  pub beat_most : c.beat_ms ≤ MOST
  pub threshold : c.threshold_ms ≤ MOST
  pub wait : 1 ≤ c.wait_ms
  pub wait_most : c.wait_ms ≤ MOST
  pub idle : c.idle_ms ≤ MOST
  pub pool : 1 ≤ c.max_pool
  pub connecting : 1 ≤ c.max_connecting

-- What the options choose: their values, the names that are told, and the names of options that ask for what is left out.
-- Each is at its default here (URI Options; own: the defaults of socketTimeoutMS and waitQueueTimeoutMS).
abbrev pub defaults : Chosen
defaults = record {
  set_name = None;  -- replicaSet
  direct = false;  -- directConnection
  retry_writes = true;  -- retryWrites
  connect_ms = 10000;  -- connectTimeoutMS
  socket_ms = 30000;  -- socketTimeoutMS
  select_ms = 30000;  -- serverSelectionTimeoutMS
  beat_ms = 10000;  -- heartbeatFrequencyMS
  threshold_ms = 15;  -- localThresholdMS
  wait_ms = 30000;  -- waitQueueTimeoutMS
  idle_ms = 0;  -- maxIdleTimeMS
  max_pool = 100;  -- maxPoolSize
  max_connecting = 2;  -- maxConnecting
  mode = mode.Primary;  -- readPreference
  tag_sets = [];  -- readPreferenceTags
  warnings = [];
  left = [];
}

-- The read preference that was chosen.
abbrev pub preference_of : Chosen → Preference
preference_of c = record { mode = c.mode; tag_sets = c.tag_sets }

-- The configuration of these seeds and this database, with what was chosen.
abbrev pub configured : List Address → List ℕ → Chosen → Configuration
configured hosts db c = record {
  hosts = hosts;
  set_name = c.set_name;
  direct = c.direct;
  db = db;
  read = preference_of c;
  retry_writes = c.retry_writes;
  connect_ms = c.connect_ms;
  socket_ms = c.socket_ms;
  select_ms = c.select_ms;
  beat_ms = c.beat_ms;
  threshold_ms = c.threshold_ms;
  wait_ms = c.wait_ms;
  idle_ms = c.idle_ms;
  max_pool = c.max_pool;
  max_connecting = c.max_connecting;
  warnings = c.warnings;
}

-- The configuration of these seeds, this set's name and this database, each option at its default.
abbrev pub plain_configuration : List Address → Option (List ℕ) → List ℕ → Configuration
plain_configuration hosts set_name db = configured hosts db (record defaults { set_name = set_name })
