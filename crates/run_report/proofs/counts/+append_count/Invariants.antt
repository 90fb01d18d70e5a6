use Rattle.run_report.proofs.counts.+append_count.Given as goal

abbrev pub decreases-append_count : goal.decreases-append_count
decreases-append_count l = l.count
