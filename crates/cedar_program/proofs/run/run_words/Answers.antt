use Rattle.std.proofs.Common.{inl, inr, refl}
use Rattle.std.proofs.KnownBytes.{Keeps-refl}
use Rattle.clap.specs.declared.error.kind.ErrorKind.TheVariants.{OutOfMemory}
use Rattle.cedar_streams.specs.Devices.{device_of}
use Rattle.cedar_program.proofs.run.run_words.Goals as goal

pub returns-in_default : goal.returns-in_default
returns-in_default g c = inr (
  OutOfMemory,
  inl refl,
  (c.tell_memory.ensures, Keeps-refl (g.O.Write.contents (device_of c.args.output.now))),
)
