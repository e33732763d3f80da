-- What a client was given to go by.
use Rattle.std.specs.Prelude.{ℕ, ◌*◌, List}
use Rattle.conn_uri.specs.Configurations.{Configuration}
use Rattle.cmd_build.specs.declared.command.Command.{Command}
use Rattle.pool_book.specs.declared.rules.PoolRules.{PoolRules}

-- A client: its settings, the commands that it is to run, which are known by their places, and the moment at which it began
-- (Connection String; CRUD).
pub record Client : Type 0 where
  pub settings : Configuration
  pub commands : List Command
  pub began : ℕ

-- Milliseconds as microseconds.
abbrev pub micros : ℕ → ℕ
micros ms = ms * 1000

-- The rules of each of its pools: maxPoolSize, maxConnecting, maxIdleTimeMS, waitQueueTimeoutMS (CMAP, Connection Pool
-- Options).
abbrev pub pool_rules : Client → PoolRules
pool_rules client = record {
  max_size = client.settings.max_pool;
  max_connecting = client.settings.max_connecting;
  idle_micros = micros client.settings.idle_ms;
  wait_micros = micros client.settings.wait_ms;
}

-- heartbeatFrequencyMS, connectTimeoutMS, socketTimeoutMS, serverSelectionTimeoutMS and localThresholdMS in microseconds
-- (URI Options).
abbrev pub beat : Client → ℕ
beat client = micros client.settings.beat_ms

abbrev pub connect_limit : Client → ℕ
connect_limit client = micros client.settings.connect_ms

abbrev pub socket_limit : Client → ℕ
socket_limit client = micros client.settings.socket_ms

abbrev pub select_limit : Client → ℕ
select_limit client = micros client.settings.select_ms

abbrev pub threshold : Client → ℕ
threshold client = micros client.settings.threshold_ms
