-- What a refusal means to one who asks for a whole file.
use Rattle.flux_io.specs.declared.calls.Fault.{Fault}
use Rattle.flux_io.specs.declared.calls.Fault.TheVariants.{Read, Memory as NoRoom}
use Rattle.flux_io.specs.declared.folder.Refused.{Refused}
use Rattle.flux_io.specs.declared.folder.Refused.TheVariants.{Failed, Memory}

-- a failure is one of the reading, and want of memory stays itself
abbrev pub fault_of : Refused → Fault
fault_of Failed = Read
fault_of (Memory e) = NoRoom e
