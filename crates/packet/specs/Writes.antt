-- What the packet writer answers, what stands in the destination after it, and each fault of a writer.
use Rattle.std.specs.Prelude.{ℕ, ◌+◌, cond, List, ◌++◌, drop, Ok, Err, Result, nat_lt}
use Rattle.refusal.specs.declared.Refusal.{Refusal}
use Rattle.packet.specs.declared.write.WriteFault.{WriteFault}
use Rattle.packet.specs.declared.write.WriteFault.TheVariants.{TooLong, NoRoom, KeyTooGreat}

-- each fault of a writer with its number, its layer and its place
abbrev pub write_refusal : WriteFault → Refusal
write_refusal (TooLong size) = record { number = 2; layer = 0; place = size }
write_refusal (NoRoom size) = record { number = 3; layer = 0; place = size }
write_refusal KeyTooGreat = record { number = 15; layer = 0; place = 0 }

-- the answer for so many data bytes and a destination of so many
abbrev pub sent : ℕ → ℕ → Result ℕ WriteFault
sent n room = cond (nat_lt 255 n) (Err (TooLong n)) (cond (nat_lt room (n + 6)) (Err (NoRoom (n + 6))) (Ok (n + 6)))

-- the destination by the answer: these bytes stand at its start, or all is as before
abbrev pub put : Result ℕ WriteFault → List ℕ → List ℕ → List ℕ
put (Ok n) bytes out = bytes ++ drop n out
put (Err fault) bytes out = out
