use Rattle.test_server.proofs.roster.four_threads_answer_a_hundred_clients.Given as goal

abbrev pub ghosts-serve_all : goal.ghosts-serve_all
ghosts-serve_all g a = record { name = a.blank.name; parts = a.blank.parts }
