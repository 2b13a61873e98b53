-- How a server as words answers a call: by one traversal, with the fault that is planned for it.
use Rattle.std.specs.Prelude.{ℕ, List}
use Rattle.sei_code.specs.Codes.{message_code}
use Rattle.sei_code.specs.Coded.{sealed}
use Rattle.sei_fault.specs.Script.{script_counts}
use Rattle.sei_pass.specs.declared.given.Sealed.{Sealed}
use Rattle.sei_main.specs.declared.world.service.Numbers.{Numbers}
use Rattle.sei_main.specs.Answering.{Answering}
use Rattle.sei_main.specs.Course.{course_of}
use Rattle.sei_main.specs.Tables.{Tables}

-- a call of a request is sealed
abbrev pub sealed_for : List ℕ → ℕ → Numbers → Sealed
sealed_for text nth numbers = record { number = numbers.request; nth = sealed nth; code = message_code numbers.request text; answer = numbers.reply }

-- the call is sealed; what its course leaves and did is the answer, with the strikes that its core counts at the end
abbrev pub table_answering : Answering Tables
table_answering t a =
    let c = course_of t.geometry a.text a.now t.buckets (sealed_for a.text a.nth a.numbers) a.plan in
    record { server = record t { buckets = c.buckets }; served = c.served; strikes = (script_counts c.core).struck }
