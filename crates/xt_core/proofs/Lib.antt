mod TwoCores
