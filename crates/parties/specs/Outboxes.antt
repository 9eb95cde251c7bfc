-- The outbox: commands wait, the oldest first, until they are collected.
use Rattle.std.specs.Prelude.{Bool, ◌&&◌, List, length, Option, nat_lt}
use Rattle.std.specs.List.{slice_get}
use Rattle.parties.specs.declared.outbox.Outbox.{Outbox}
use Rattle.parties.specs.Commands.{Command, limit}
use Rattle.parties.specs.Waiting.{is_sendable}

-- the commands that wait, the oldest first
abbrev pub waiting : Outbox → List Command
waiting o = o.queue.items

abbrev pub oldest : List Command → Option Command
oldest commands = slice_get commands 0

abbrev pub outbox_last : Outbox → Option Command
outbox_last o = o.log.last

-- A command that can be sent is taken while fewer than sixteen wait.
abbrev pub outbox_verdict : Outbox → Command → Bool
outbox_verdict o c = nat_lt o.log.done limit && (nat_lt (length (waiting o)) 16 && is_sendable c.name c.payload)
