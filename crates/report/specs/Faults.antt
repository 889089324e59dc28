-- What is reported of a text that is no report.
use Rattle.texts.specs.declared.fault.TextFault.{TextFault}
use Rattle.texts.specs.declared.fault.TextFault.TheVariants.{NoMemory, Read, Bad}
use Rattle.report.specs.declared.fault.NotLawful.{NotLawful}
use Rattle.report.specs.declared.fault.ReportFault.{ReportFault}
use Rattle.report.specs.declared.fault.ReportFault.TheVariants as report

-- the fault of a report where its rows have this one
abbrev pub report_fault : TextFault NotLawful → ReportFault
report_fault NoMemory = report.NoMemory
report_fault Read = report.Read
report_fault (Bad row cause) = report.NotLawful row
