mod NoFifth
