use Rattle.test_server.proofs.entering.three_threads_enter_twice.Given as goal

abbrev pub ghosts-three_threads : goal.ghosts-three_threads
ghosts-three_threads g a = record { name = a.blank.name; parts = a.blank.parts }
