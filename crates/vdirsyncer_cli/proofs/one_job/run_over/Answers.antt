use Rattle.std.proofs.Common.{◌∙◌}
use Rattle.vdirsyncer_cli.proofs.JobLaws.{run_over, side_by}
use Rattle.outfits.specs.Places.{place_by}
use Rattle.vdirsyncer_cli.specs.Jobs.{places_of}
use Rattle.vdirsyncer_cli.proofs.one_job.run_over.Goals as goal

pub returns : goal.returns
returns g c =
    let sync = c.sync_collection-report.ensures in
    run_over _ _ _
    (places_of g.D.Folder.count g.D.Folder.state c.args.dirs)
    (record { a = place_by g.D.Folder.count g.D.Folder.state c.into_parts.result; b = place_by g.D.Folder.count g.D.Folder.state c.into_parts-2.result; s = place_by g.D.Folder.count g.D.Folder.state c.into_folder.result })
    _ _ _ _ _ _ _ _ _ _ _ _ _ _ _ _ _ _ _ _ _ _ _ _ _
    (record {
      count = c.new-store_a.ensures.count;
      count' = c.into_parts.ensures.count;
      side = c.new-store_a.ensures.side;
      side' = side_by c.args.ending_a _ (g.D.Folder.state c.into_parts.result) _ (sync.same_a ∙ c.new-store_a.ensures.setting) c.into_parts.ensures.side;
      told = c.new-store_a.ensures.tells;
      told' = c.into_parts.ensures.tells;
    })
    (record {
      count = c.new-store_b.ensures.count;
      count' = c.into_parts-2.ensures.count;
      side = c.new-store_b.ensures.side;
      side' = side_by c.args.ending_b _ (g.D.Folder.state c.into_parts-2.result) _ (sync.same_b ∙ c.new-store_b.ensures.setting) c.into_parts-2.ensures.side;
      told = c.new-store_b.ensures.tells;
      told' = c.into_parts-2.ensures.tells;
    })
    (record {
      count = c.new-keeper.ensures.count;
      count' = c.into_folder.ensures.count;
      state = c.new-keeper.ensures.state;
      state' = c.into_folder.ensures.state;
      told = c.new-keeper.ensures.tells;
      told' = c.into_folder.ensures.tells;
    })
    sync.step
