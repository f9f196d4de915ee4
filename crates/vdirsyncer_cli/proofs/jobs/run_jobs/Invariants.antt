use Rattle.std.proofs.Common.{◌≡◌, drop}
use Rattle.outfits.specs.Places.{IsWhole}
use Rattle.vdirsyncer_cli.proofs.JobListLaws.{RanSoFar}
use Rattle.vdirsyncer_cli.proofs.jobs.run_jobs.Given as goal

abbrev pub invariant-loop-job : goal.invariant-loop-job
invariant-loop-job g l = record {
  whole : IsWhole (g.O.Outfit.places l.outfit);
  children : g.O.Outfit.children l.outfit ≡ g.O.Outfit.children l.fn.outfit;
  so_far : RanSoFar g.O.Outfit.places g.O.Outfit.tells l.force_delete l.fn.outfit l.outfit l.jobs (drop l.job-index l.jobs) g.S.Sink.count g.S.Sink.tells g.S.Sink.held l.fn.out l.out l.progress;
}
