use Rattle.xr_driver.specs.Lines.{no_file_line, too_long_line, read_fault_line}
use Rattle.xr_driver.proofs.deliver.add_line.Goals as goal

pub returns-in-Usage-clause-drew : goal.returns-in-Usage-clause-drew
returns-in-Usage-clause-drew g c = rw c.in-Usage.is c.add_usage.ensures.drew

pub returns-in-NoFile-clause-drew : goal.returns-in-NoFile-clause-drew
unfolding no_file_line
returns-in-NoFile-clause-drew g c = rw c.in-NoFile.is c.add_about.ensures.drew

pub returns-in-TooLong-clause-drew : goal.returns-in-TooLong-clause-drew
unfolding too_long_line
returns-in-TooLong-clause-drew g c = rw c.in-TooLong.is c.add_about-in-TooLong.ensures.drew

pub returns-in-ReadFault-clause-drew : goal.returns-in-ReadFault-clause-drew
unfolding read_fault_line
returns-in-ReadFault-clause-drew g c = rw c.in-ReadFault.is c.add_about-in-ReadFault.ensures.drew

pub returns-in-Broken-clause-drew : goal.returns-in-Broken-clause-drew
returns-in-Broken-clause-drew g c = rw c.in-Broken.is c.add_broken.ensures.drew

pub returns-in-BadLine-clause-drew : goal.returns-in-BadLine-clause-drew
returns-in-BadLine-clause-drew g c = rw c.in-BadLine.is c.add_bad_line.ensures.drew
