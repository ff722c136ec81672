use Rattle.archiver_lines.proofs.known.Known.add_reading.Goals as goal

pub returns-in-Opens : goal.returns-in-Opens
returns-in-Opens c = rw c.in-Opens.is (c.begin_section.ensures c.args.site.now)
