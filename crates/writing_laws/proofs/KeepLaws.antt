-- This library's writers keep what the statements say.
use Rattle.writing.specs.Written.{ett_written, eit_written}
use Rattle.writing_laws.specs.RoundTrips.{RoundTrips}
use Rattle.writing_laws.proofs.EttLaws.{writes_ett, reads_back_ett, rewrites_ett}
use Rattle.writing_laws.proofs.EitLaws.{writes_eit}
use Rattle.writing_laws.proofs.ReadLaws.{reads_back_eit}
use Rattle.writing_laws.proofs.AgainLaws.{rewrites_eit}

pub kept : RoundTrips ett_written eit_written
kept = record {
  ett_writes = writes_ett;
  ett_reads = reads_back_ett ett_written writes_ett;
  ett_rewrites = rewrites_ett ett_written writes_ett;
  eit_writes = writes_eit;
  eit_reads = reads_back_eit eit_written writes_eit;
  eit_rewrites = rewrites_eit eit_written writes_eit;
}
