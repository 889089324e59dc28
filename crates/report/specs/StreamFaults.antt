-- Why a part of a streamed report was not written.
use Rattle.std.specs.Prelude.{ℕ, Result}
use Rattle.texts.specs.Pages.{CountsFault}
use Rattle.texts.specs.declared.fault.WriteFault.{WriteFault}
use Rattle.texts.specs.declared.fault.WriteFault.TheVariants as write
use Rattle.report.specs.declared.stream.StreamFault.{StreamFault}
use Rattle.report.specs.declared.stream.StreamFault.TheVariants as stream

-- the stream's fault where bytes were not written
abbrev pub stream_fault_of : WriteFault → StreamFault
stream_fault_of write.NoMemory = stream.NoMemory
stream_fault_of write.Write = stream.Write

-- a call of a stream counts a failed write, and nothing else
abbrev pub CountsStreamFault : {T : Type 0} → Result T StreamFault → ℕ → ℕ → Type 0
CountsStreamFault result old new = CountsFault stream.NoMemory stream.Write result old new
